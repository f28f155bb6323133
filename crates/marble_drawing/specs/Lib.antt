pub mod Ends
pub mod Pictures
