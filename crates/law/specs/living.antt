pub mod Living
pub mod Quiet
pub mod Later
