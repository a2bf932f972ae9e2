-- What no promise rests on: invariants of private types, and words that only proofs cite.
pub mod Dealing
pub mod Caches
pub mod Runs
pub mod Outlines
pub mod Shorts
