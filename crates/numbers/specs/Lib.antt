pub mod Numbers
pub mod Floor
