-- What follows from the definitions.
pub mod BoardFacts
pub mod MoveFacts
pub mod HareLaws
pub mod TextLaws
pub mod HarePictured
