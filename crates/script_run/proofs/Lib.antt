pub mod Transfers
pub mod Progress
pub mod Writing
pub mod Whole
pub mod Buffering
