pub mod Dodgem
pub mod DodgemPicture
pub mod laws
