pub mod Answers
pub mod Shared
pub mod Spelt
pub mod Steps
