pub mod Log
pub mod Recorded
pub mod Differences
pub mod Places
