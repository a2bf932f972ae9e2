pub mod Totals
pub mod Bars
pub mod Numbers
pub mod Listing
pub mod LongestWins
pub mod Tree
pub mod ByTier
pub mod Longest
