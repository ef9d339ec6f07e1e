pub mod Names
pub mod Moves
pub mod Keyed
pub mod Packed
pub mod Past
pub mod Changes
