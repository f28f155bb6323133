pub mod Captions
pub mod Widths
pub mod Symbols
pub mod Drawings
