pub mod Finds
pub mod Packing
pub mod Rows
