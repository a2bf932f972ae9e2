pub mod PongRules
pub mod PongPicture
pub mod laws
