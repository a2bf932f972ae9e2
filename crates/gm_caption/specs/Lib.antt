pub mod Templates
pub mod Captions
