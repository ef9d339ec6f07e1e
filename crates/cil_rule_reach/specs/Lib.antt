pub mod Reaches
pub mod Named
