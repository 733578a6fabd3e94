pub mod Outcomes
pub mod Lists
pub mod Dicts
pub mod Queues
