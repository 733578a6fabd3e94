pub mod Parts
pub mod Leaving
