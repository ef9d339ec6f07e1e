pub mod Dependence
pub mod Graph
pub mod Items
pub mod Ranks
pub mod Walk
