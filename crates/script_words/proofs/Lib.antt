pub mod Splitting
pub mod Digits
pub mod Cutting
