pub mod WorkLemmas
pub mod StoreLemmas
pub mod OrderLemmas
pub mod SoFar
pub mod ErrorLemmas
mod WholeLines
pub mod Lower
