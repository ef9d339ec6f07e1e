pub mod Common
pub mod InUseLemmas
pub mod NameLemmas
pub mod InverseLemmas
pub mod NumberLemmas
