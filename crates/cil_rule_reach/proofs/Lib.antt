pub mod LineLemmas
pub mod PermitLemmas
pub mod IdleLemmas
pub mod NamedLemmas
