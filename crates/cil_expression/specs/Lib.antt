pub mod Spelling
pub mod Holds
pub mod Expression
pub mod Listed
pub mod Evaluation
pub mod Same
