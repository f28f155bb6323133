pub mod Digits
pub mod Uncancelled
