pub mod Derivations
pub mod Meaning
pub mod Order
