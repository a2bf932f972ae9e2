pub mod RowRules
pub mod HexRules
pub mod SimRules
pub mod PlacingPictures
pub mod laws
