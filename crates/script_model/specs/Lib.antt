pub mod Findings
pub mod Things
pub mod Worlds
pub mod Answering
pub mod Running
