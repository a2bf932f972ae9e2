pub mod OnePass
pub mod inner
