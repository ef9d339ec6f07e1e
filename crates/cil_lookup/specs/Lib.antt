pub mod Namespaces
pub mod Lookup
