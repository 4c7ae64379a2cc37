-- What the code's proofs use.
pub mod Puts
pub mod Digits
pub mod Writers
pub mod Names
-- What holds of the definitions.
pub mod DecimalRead
