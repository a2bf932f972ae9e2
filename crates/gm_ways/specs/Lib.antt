pub mod Ways
pub mod WayPictures
pub mod laws
