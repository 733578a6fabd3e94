pub mod Ends
pub mod Waiting
pub mod Tries
pub mod Stepping
pub mod Lines
pub mod Running
pub mod Isolation
pub mod Wants
