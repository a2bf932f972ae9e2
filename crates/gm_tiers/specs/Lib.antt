pub mod Reach
pub mod Limits
pub mod Orders
pub mod Search
