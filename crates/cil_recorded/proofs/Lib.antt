pub mod Common
pub mod LogLemmas
pub mod TurnLemmas
pub mod PlaceLemmas
pub mod EndLemmas
pub mod CopyLemmas
