pub mod Strategies
pub mod Keeping
pub mod Shown
pub mod Polls
pub mod Courses
pub mod Destinations
pub mod Sharings
pub mod Upstreams
