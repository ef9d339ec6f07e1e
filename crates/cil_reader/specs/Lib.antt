pub mod Common
pub mod Image
pub mod Tree
pub mod Forest
pub mod ByteTable
pub mod Reader
