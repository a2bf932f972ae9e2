-- What no promise rests on: invariants of private types, and words that only proofs cite.
pub mod Blocks
pub mod Covered
pub mod Cuts
pub mod Plans
pub mod Split
pub mod Tiling
