-- What the proofs of several functions use.
pub mod Laws
pub mod Marks
pub mod Followed
pub mod Reserved
pub mod Facts
pub mod Runs
pub mod Parts
