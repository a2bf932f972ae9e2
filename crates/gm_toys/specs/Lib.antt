pub mod Subtraction
pub mod SubtractionLaws
pub mod Countdown
pub mod Chain
pub mod Wheel
pub mod WheelLaws
pub mod Stairs
pub mod StairsLaws
