pub mod Amounts
pub mod Pieces
pub mod Rounds
pub mod Spots
