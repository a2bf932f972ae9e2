pub mod BlockLemmas
pub mod Deliveries
pub mod OnceLemmas
pub mod Parts
pub mod Values
pub mod Lower
