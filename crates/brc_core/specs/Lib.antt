pub mod Holders
pub mod Moves
pub mod Readings
pub mod Replays
