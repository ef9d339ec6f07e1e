pub mod Permits
pub mod Reach
pub mod Moves
pub mod Groups
pub mod Amounts
