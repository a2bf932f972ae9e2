pub mod Listed
pub mod Counting
pub mod CountLists
pub mod Lists
pub mod Names
pub mod NoFloat
pub mod Reporting
pub mod Lower
