pub mod Common
pub mod EdgeLemmas
pub mod ItemsLemmas
pub mod LeadsLemmas
pub mod RanksLemmas
pub mod SearchLemmas
pub mod StepLemmas
pub mod WalkLemmas
