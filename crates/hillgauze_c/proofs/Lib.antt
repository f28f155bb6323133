mod AsBox
mod Handled
mod HandleSteps
mod Making
pub mod Received
