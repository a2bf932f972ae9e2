pub mod SearchLemmas
pub mod AnswerLemmas
pub mod StepLemmas
pub mod OrderLemmas
pub mod Lower
