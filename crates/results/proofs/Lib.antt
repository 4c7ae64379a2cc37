-- What the code's proofs use.
pub mod Rows
pub mod Ranges
pub mod Assembled
pub mod Turns
-- What holds of the definitions.
pub mod Worked
pub mod Batches
pub mod Refusals
