-- What the proofs of functions use.
pub mod Digits
pub mod Words
pub mod Storing
