pub mod Heights
pub mod Stacks
pub mod laws
