pub mod HexapawnRules
pub mod ClobberRules
pub mod KonoRules
pub mod ToadsRules
pub mod SlidingPictures
pub mod laws
pub mod ToadsPicture
