pub mod Halves
pub mod Loads
pub mod Costs
