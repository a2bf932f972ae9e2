-- What no promise rests on: invariants of private types, and words that only proofs cite.
pub mod SegmentMasks
pub mod CounterMasks
pub mod Befores
pub mod Lines
