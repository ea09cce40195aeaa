pub mod Laws
mod Lemmas
mod Cases
