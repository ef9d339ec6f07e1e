pub mod Dirty
pub mod Work
