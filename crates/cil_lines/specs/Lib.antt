pub mod Digit
pub mod Line
pub mod Limit
