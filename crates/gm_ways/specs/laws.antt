-- Nothing is wrong with the tables, and the pictures satisfy the laws of pictures.
pub mod WayTables
