pub mod TierText
pub mod Refusals
pub mod StoreTexts
pub mod inner
