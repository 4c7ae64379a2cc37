pub mod Writes
pub mod Moves
pub mod Groups
pub mod Actions
pub mod Blocks
