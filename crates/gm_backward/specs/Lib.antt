pub mod Solving
pub mod inner
