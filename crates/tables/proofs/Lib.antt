-- What the code's proofs use.
pub mod Bytes
pub mod Parts
pub mod Checked
pub mod Packed
pub mod Events
pub mod Ranges
