mod Closing
mod Listed
mod Ordering
mod Refused
mod Trueness
mod Words
pub mod Lower
