-- What follows from the rules: the laws of a game, and of its texts.
pub mod SizeFacts
pub mod BoardFacts
pub mod DropFacts
pub mod TierFacts
pub mod MoveFacts
pub mod ConnectLaws
pub mod TextLaws
pub mod ConnectPictured
