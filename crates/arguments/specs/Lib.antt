pub mod Asking
pub mod Saying
