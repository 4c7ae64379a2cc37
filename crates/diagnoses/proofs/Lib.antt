-- What the code's proofs use.
pub mod Shown
pub mod Diagnosed
-- What holds of the definitions.
pub mod Worked
