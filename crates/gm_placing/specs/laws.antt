-- What follows from the rules.
pub mod PlacingTables
