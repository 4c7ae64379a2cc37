pub mod Lines
pub mod Coded
pub mod Results
pub mod Cases
pub mod Private
