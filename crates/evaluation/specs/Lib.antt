pub mod Memory
pub mod Meaning
pub mod Sides
pub mod Private
