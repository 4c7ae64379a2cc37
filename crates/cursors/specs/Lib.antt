pub mod Packed
pub mod Following
