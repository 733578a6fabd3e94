mod Mortal_Kinds
mod Few_Births
mod Held
mod Listing
mod Collected
mod Closed
mod Ended
mod Gathering
pub mod At_Desk
pub mod Sent
