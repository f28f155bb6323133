mod Logging
mod Waiting
