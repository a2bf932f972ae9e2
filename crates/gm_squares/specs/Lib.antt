pub mod Squares
pub mod inner
pub mod laws
pub mod Chess
pub mod Kpk
pub mod FoxHounds
pub mod Pictures
