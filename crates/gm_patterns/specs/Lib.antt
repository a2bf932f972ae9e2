pub mod Patterns
pub mod Steps
pub mod PatternGames
pub mod PatternTables
pub mod PatternTexts
pub mod PatternPictures
pub mod inner
pub mod laws
