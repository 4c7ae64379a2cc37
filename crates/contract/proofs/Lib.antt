-- What a contract that fits gives, and a table that passes.
pub mod Fitting
pub mod Passed
-- What the code's proofs use, here and in other crates.
pub mod Rows
pub mod Tests
pub mod Zeros
