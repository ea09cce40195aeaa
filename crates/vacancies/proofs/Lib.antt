mod Laws
mod Rows
