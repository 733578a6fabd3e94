pub mod Command
pub mod Errors
pub mod Explanations
pub mod Performing
pub mod Statuses
pub mod Takes
pub mod Unreads
