pub mod Steps
pub mod Private
pub mod Sessions
