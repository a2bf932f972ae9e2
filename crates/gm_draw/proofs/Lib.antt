mod Spreading
mod Spotting
pub mod Lower
