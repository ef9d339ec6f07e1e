pub mod Common
pub mod MeaningLemmas
pub mod CommandLineLemmas
pub mod BothLemmas
pub mod ZipLemmas
pub mod ByNamesLemmas
pub mod GivenLemmas
pub mod StatusLemmas
