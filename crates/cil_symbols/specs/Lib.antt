pub mod InUse
pub mod Numbered
