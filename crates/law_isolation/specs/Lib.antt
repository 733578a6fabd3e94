pub mod Means
pub mod Goes
pub mod Calls
pub mod Lines
pub mod Asked
pub mod Keeping
pub mod Integers
