pub mod TrueTexts
pub mod Findings
pub mod Inspections
pub mod Work
pub mod Outcomes
pub mod inner
