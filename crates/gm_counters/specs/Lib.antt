pub mod Delivery
pub mod Good
pub mod State
pub mod Status
pub mod Steps
pub mod inner
