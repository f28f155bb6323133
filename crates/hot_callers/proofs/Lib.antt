mod Looks
mod Sublists
mod Speaking
mod Accepting
mod Answered
mod Own
mod Alone
mod Exchanging
pub mod Keeping
mod Refused
mod Whole
mod StateExchanging
