pub mod Clauses
pub mod Agreements
