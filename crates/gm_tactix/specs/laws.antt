-- What follows from the definitions.
pub mod CounterFacts
pub mod MoveFacts
pub mod SegmentFacts
pub mod TactixLaws
pub mod TextLaws
pub mod TactixPictured
pub mod CounterMaskFacts
