pub mod Calling
pub mod CallingLaws
pub mod Handing
