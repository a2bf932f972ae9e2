pub mod Games
pub mod Records
pub mod Refusing
pub mod Replies
pub mod Saying
