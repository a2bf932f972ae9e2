-- What follows from the rules.
pub mod NimLaws
pub mod Counts
pub mod ChompLaws
pub mod NumbersPictured
