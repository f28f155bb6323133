pub mod Lists
pub mod Histories
pub mod Calling
pub mod Passing
pub mod Places
pub mod Trying
pub mod Asking
