pub mod Store
pub mod Next
pub mod Limits
pub mod Run
pub mod StoreReport
pub mod Script
pub mod Answers
pub mod Session
