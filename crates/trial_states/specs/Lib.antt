pub mod Parts
pub mod Said
