pub mod Gaining
pub mod Pieces
mod Feeding
