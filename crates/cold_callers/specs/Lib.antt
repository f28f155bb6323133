pub mod Countdown
pub mod Halves
pub mod Lists
pub mod More
