pub mod Common
pub mod ListLemmas
pub mod DependentLemmas
pub mod GreatestLemmas
