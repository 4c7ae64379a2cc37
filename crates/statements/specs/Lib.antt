pub mod Running
pub mod Lending
pub mod Blocks
pub mod Private
