pub mod Notes
pub mod Levels
pub mod Pairs
pub mod Counts
pub mod inner
