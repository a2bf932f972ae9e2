-- What no promise rests on: invariants of private types, and words that only proofs cite.
pub mod NextCells
pub mod Groups
pub mod Words
pub mod Leaders
pub mod Orbits
pub mod Digits
pub mod SquareImages
