pub mod History
pub mod Views
pub mod Collected
pub mod Calls
pub mod Law
pub mod Steps
