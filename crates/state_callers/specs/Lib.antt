pub mod Given
pub mod Logs
