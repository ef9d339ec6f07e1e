pub mod Pieces
pub mod Forms
pub mod Conditions
pub mod Statements
pub mod Laws
pub mod Readings
