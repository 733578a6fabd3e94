pub mod Errands
pub mod Held
pub mod Stopping
pub mod Turns
