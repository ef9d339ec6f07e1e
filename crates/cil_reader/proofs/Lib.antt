pub mod Common
pub mod Nodes
pub mod Marks
pub mod ByteClasses
pub mod Reading
pub mod Going
pub mod Ends
