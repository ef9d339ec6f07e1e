pub mod Sums
pub mod Rises
