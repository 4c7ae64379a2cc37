pub mod Diagnoses
pub mod Cases
