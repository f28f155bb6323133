pub mod Histories
pub mod Calling
pub mod Given
pub mod Asking
