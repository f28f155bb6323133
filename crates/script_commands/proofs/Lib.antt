pub mod Gathering
pub mod Keywords
pub mod Playing
pub mod Hashing
