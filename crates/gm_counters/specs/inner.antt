-- What no promise rests on: invariants of private types, and words that only proofs cite.
pub mod Begin
pub mod Closing
pub mod Logged
pub mod Ordered
pub mod Queues
pub mod Statuses
