-- Facts that follow from the definitions.
pub mod Templates
pub mod Points
pub mod Rows
pub mod Chessboards
