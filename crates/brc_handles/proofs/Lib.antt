pub mod Places
pub mod Gained
