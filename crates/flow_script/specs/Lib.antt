pub mod Makers
pub mod Running
