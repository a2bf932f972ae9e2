pub mod Segments
pub mod Board
pub mod Texts
pub mod TactixPicture
pub mod inner
pub mod laws
