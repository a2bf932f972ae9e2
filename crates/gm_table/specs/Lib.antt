pub mod Checks
pub mod Levels
pub mod Numbers
pub mod Packed
pub mod Solving
pub mod Tables
pub mod RecordCodes
pub mod inner
