pub mod Agreement
pub mod Private
