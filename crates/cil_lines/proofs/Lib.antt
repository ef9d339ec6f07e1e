pub mod Common
pub mod EntryLemmas
pub mod SearchLemmas
pub mod DigitLemmas
pub mod PlaceLemmas
pub mod LineLemmas
pub mod StepLemmas
pub mod GiveUpLemmas
