pub mod Does
pub mod History
pub mod Calls
pub mod Watching
pub mod Waits
pub mod Laws
