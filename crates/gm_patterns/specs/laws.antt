-- What follows from the definitions.
pub mod PatternFacts
pub mod TableFacts
pub mod StepFacts
pub mod PatternLaws
pub mod IndexFacts
pub mod PatternPictured
pub mod MaskFacts
pub mod LesserFacts
