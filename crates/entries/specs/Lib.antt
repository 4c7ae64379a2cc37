pub mod Draft
pub mod Private
pub mod Lending
