pub mod Values
pub mod Packs
pub mod Tested
pub mod Clipped
pub mod Turns
pub mod Following
