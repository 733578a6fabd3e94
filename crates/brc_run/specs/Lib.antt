pub mod Options
pub mod Runs
pub mod Words
pub mod Tellings
pub mod Scripts_Run
pub mod Notes
pub mod Names
pub mod Sections
