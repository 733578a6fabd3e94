pub mod Staying
pub mod Progress
pub mod Ranges
