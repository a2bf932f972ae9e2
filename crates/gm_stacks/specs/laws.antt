-- What follows from the definitions.
pub mod HeightRanks
pub mod SplitRanks
pub mod Sums
pub mod Columns
pub mod StackedBoards
pub mod Mirrors
