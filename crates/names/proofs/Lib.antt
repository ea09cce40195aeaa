pub mod Laws
pub mod Shared
mod Lemmas
pub mod Chains
