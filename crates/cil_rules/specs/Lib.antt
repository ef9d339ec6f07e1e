pub mod Common
pub mod Atoms
pub mod NameList
pub mod NumberedRows
pub mod Rows
