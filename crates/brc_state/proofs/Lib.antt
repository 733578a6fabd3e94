pub mod Enabling
pub mod Parting
pub mod Refused
pub mod Closing
mod Numbers
