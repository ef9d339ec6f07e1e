pub mod Common
pub mod Chunks
pub mod Groups
pub mod Merged
pub mod Renumbered
pub mod Rows
pub mod View
