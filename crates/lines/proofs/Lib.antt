-- Laws that the proofs share.
pub mod Firsts
pub mod Parse
pub mod Got
pub mod Ahead
pub mod Flat
pub mod Turns
pub mod Loops
pub mod Size
pub mod Times
pub mod Agreed
pub mod Forms
pub mod Told
pub mod Worked
