pub mod Effects
pub mod Memory
pub mod OwnPart
pub mod Refusals
pub mod Closers
