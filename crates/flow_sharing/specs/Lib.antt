pub mod Taken
pub mod Shared
pub mod FlowDestinations
pub mod Outlets
pub mod StateShared
pub mod StateDestinations
pub mod Sharings
pub mod StateSharings
