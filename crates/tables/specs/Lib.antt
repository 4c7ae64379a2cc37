pub mod Private
pub mod Passing
