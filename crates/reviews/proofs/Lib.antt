pub mod Laws
pub mod Naming
pub mod Texts
