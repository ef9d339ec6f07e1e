pub mod Common
pub mod GainedLemmas
pub mod OrderLemmas
pub mod ChangeLemmas
pub mod PresentLemmas
pub mod CountLemmas
pub mod WordCountLemmas
