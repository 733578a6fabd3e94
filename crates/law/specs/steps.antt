pub mod Owing
pub mod Taking
pub mod Joining
