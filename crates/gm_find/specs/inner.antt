-- What no promise rests on: words that only proofs cite.
pub mod Tallies
pub mod Takings
