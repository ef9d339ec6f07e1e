pub mod Common
pub mod Numbered
pub mod Gained
pub mod SourceOrder
pub mod Counts
