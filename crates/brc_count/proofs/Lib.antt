mod Place_Lists
mod Place_Marks
mod Buried
pub mod Changes
mod Framings
mod Locks
mod None_Locks
mod Locked_Entries
pub mod Keys_Shown
mod Popping
mod Leaving
mod Bearing
pub mod Owning
mod Unasked
pub mod Quiet
pub mod Refusing
pub mod Handing
pub mod Beginning
pub mod Kept
