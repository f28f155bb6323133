pub mod Asked
pub mod Statuses
pub mod Wishes
