pub mod SumLemmas
pub mod PairLemmas
pub mod RiseLemmas
pub mod WithinLemmas
