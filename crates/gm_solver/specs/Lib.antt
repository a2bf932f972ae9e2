pub mod Boards
pub mod Desks
