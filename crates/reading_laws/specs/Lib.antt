pub mod Masks
pub mod Walk
