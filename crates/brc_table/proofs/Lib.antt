pub mod Placing
pub mod Opened
pub mod Remaining
pub mod Bounding
pub mod Own_Counts
pub mod Finding
pub mod Giving
pub mod Showing
pub mod Wakes_Own
pub mod Numbering
mod Laying
