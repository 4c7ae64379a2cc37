pub mod Published
pub mod Exactly
