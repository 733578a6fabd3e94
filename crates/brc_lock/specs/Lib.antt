pub mod Holding
pub mod Edits
