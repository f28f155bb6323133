pub mod Commands
pub mod Examples
pub mod Courses
pub mod Sharings
pub mod Stepping
