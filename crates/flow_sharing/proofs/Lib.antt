pub mod Taken
pub mod Shared
pub mod StateShared
pub mod Polling
pub mod Examples
pub mod Places
