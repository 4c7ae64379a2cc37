pub mod States
pub mod Private
