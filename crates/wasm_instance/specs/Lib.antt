pub mod Instantiation
pub mod Laws
pub mod Parts
