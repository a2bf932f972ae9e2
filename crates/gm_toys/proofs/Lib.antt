pub mod Reading
pub mod Lower
