pub mod Calls
pub mod Views
pub mod Makings
