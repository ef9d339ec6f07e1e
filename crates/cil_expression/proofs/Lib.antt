pub mod Common
pub mod EvaluationLemmas
pub mod HoldsLemmas
pub mod ListedLemmas
pub mod SameExprLemmas
pub mod SameLemmas
pub mod SpellingLemmas
