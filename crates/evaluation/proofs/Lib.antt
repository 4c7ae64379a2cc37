pub mod Values
pub mod Truths
pub mod Nots
pub mod Refusals
pub mod Sides
