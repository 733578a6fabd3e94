pub mod Bounds
pub mod Eaches
pub mod Closing
mod Reaching
pub mod Turns
