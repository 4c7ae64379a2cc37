pub mod Histories
pub mod Demand
pub mod Untouched
pub mod Cases
pub mod Settled
pub mod Sessions
pub mod TextOrder
