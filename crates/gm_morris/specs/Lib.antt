pub mod Morris
pub mod NinePicture
pub mod laws
