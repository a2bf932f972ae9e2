pub mod Gains
pub mod PieceLemmas
pub mod Places
pub mod RoundLemmas
pub mod Lower
