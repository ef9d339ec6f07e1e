pub mod Needs
pub mod Dependents
