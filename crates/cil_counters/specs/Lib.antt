pub mod Common
pub mod Counted
pub mod SymbolRanks
pub mod ChangeCounts
pub mod ChangedMembers
