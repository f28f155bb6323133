pub mod Parsing
pub mod Examples
