pub mod Reviews
pub mod Holders
pub mod Private
