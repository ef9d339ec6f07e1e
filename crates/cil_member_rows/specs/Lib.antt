pub mod Common
pub mod Held
pub mod Marks
pub mod Rows
pub mod Words
