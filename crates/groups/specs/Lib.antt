pub mod Groups
pub mod Names
pub mod Chains
pub mod Private
