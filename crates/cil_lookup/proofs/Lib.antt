pub mod Common
pub mod NamespaceLemmas
pub mod LookupLemmas
