pub mod Common
pub mod AtomLemmas
pub mod GroupLemmas
pub mod ListingLemmas
pub mod NumberedRowLemmas
pub mod RowLemmas
pub mod TableLemmas
