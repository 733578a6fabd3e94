pub mod Instructions
pub mod Scripts
pub mod FirstWords
pub mod Operands
pub mod Rows
pub mod Walks
pub mod Spellings
pub mod Texts
