pub mod Loading
pub mod Halving
pub mod Costing
pub mod Counting
