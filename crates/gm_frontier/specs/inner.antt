-- What no promise rests on: invariants of private types, and words that only proofs cite.
pub mod Tallies
pub mod Parts
pub mod Records
pub mod Rows
pub mod PairLists
