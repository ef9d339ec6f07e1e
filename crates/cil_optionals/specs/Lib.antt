pub mod Common
pub mod Nested
pub mod Nodes
pub mod Providers
pub mod Asks
pub mod Others
pub mod Permissions
pub mod Given
