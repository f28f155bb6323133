pub mod Emissions
pub mod Looking
