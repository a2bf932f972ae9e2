-- What no promise rests on: invariants of private types, and words that only proofs cite.
pub mod Needed
pub mod Services
