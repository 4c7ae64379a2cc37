pub mod Packing
pub mod Spellings
pub mod Comparing
