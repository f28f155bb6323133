pub mod Receiving
pub mod Noting
pub mod Telling
pub mod Placing
pub mod Seats
