pub mod Picturing
pub mod Steps
pub mod Lines
pub mod Objects
pub mod Known
pub mod Answered
pub mod Modelled
