pub mod Sizes
pub mod Lines
pub mod ConnectFour
pub mod Texts
pub mod ConnectPicture
pub mod inner
pub mod laws
