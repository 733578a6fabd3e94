pub mod Lists
pub mod Phases
pub mod Heap
pub mod Steps
pub mod Runs
pub mod Holding
pub mod Sound
pub mod Since
