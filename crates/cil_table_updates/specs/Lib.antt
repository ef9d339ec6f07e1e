pub mod Common
pub mod Policies
pub mod Given
pub mod Moves
pub mod Adjusted
pub mod Changed
pub mod Staying
