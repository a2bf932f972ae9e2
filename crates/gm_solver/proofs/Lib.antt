pub mod AnswerLemmas
pub mod DeskLemmas
pub mod FullLemmas
pub mod Lower
