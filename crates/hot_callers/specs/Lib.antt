pub mod Lights
pub mod LightLaws
pub mod SharedCalls
pub mod Receiving
pub mod Exchanges
pub mod Alone
pub mod StateExchanges
