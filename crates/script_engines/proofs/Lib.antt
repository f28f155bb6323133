pub mod Caching
pub mod Found
pub mod Parties
pub mod Watching
pub mod Keeping
