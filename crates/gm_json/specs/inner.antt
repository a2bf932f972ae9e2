-- What no promise rests on: invariants of private types, and words that only proofs cite.
pub mod Parts
pub mod Midst
pub mod Stops
pub mod Feeds
