pub mod Digits
pub mod Nim
pub mod Chomp
pub mod NumbersPictures
pub mod laws
