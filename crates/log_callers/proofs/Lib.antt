pub mod Counting
pub mod Logging
