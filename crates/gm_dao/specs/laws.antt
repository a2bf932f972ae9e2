-- What follows from the rules: the laws of a game, and of its texts.
pub mod SlideFacts
pub mod BoardFacts
pub mod CountFacts
pub mod MoveFacts
pub mod PlayFacts
pub mod BeforeFacts
pub mod DaoLaws
pub mod TextLaws
pub mod DaoPictured
