pub mod Holders
pub mod Facts
pub mod Tests
pub mod Edits
pub mod World
