-- What follows from the rules.
pub mod DodgemLaws
pub mod DodgemPictured
