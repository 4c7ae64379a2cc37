pub mod Entries
pub mod Page
pub mod Answers
pub mod Gathering
pub mod Private
pub mod Promises
