-- What follows from the definitions.
pub mod StairsLaws
pub mod SubtractionLaws
pub mod DownLaws
pub mod WheelLaws
pub mod Pictured
