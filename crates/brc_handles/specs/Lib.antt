pub mod Handles
pub mod Standing
