pub mod Counts
pub mod Logs
