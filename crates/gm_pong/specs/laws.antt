-- Nothing is wrong with the table, and the picture satisfies the laws of pictures.
pub mod PongTables
