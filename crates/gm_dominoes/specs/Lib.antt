pub mod DominoRules
pub mod KaylesRules
pub mod DominoPictures
pub mod laws
