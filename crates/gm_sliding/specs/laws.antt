-- What follows from the rules.
pub mod SlidingTables
pub mod ToadsTables
