pub mod Calls
pub mod Registers
pub mod Printing
pub mod Causes
pub mod Doing
