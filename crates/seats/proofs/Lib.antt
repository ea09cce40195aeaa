pub mod Laws
mod Behind
