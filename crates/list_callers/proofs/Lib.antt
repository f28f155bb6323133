pub mod Refusals
pub mod Taking
