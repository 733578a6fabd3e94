pub mod Faults
pub mod Shared
pub mod Owners
pub mod Kinds
pub mod Keys
pub mod Notes
