pub mod Copies
pub mod Tests
