pub mod TextSteps
pub mod Lower
