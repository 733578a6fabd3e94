mod Settled
mod Counted
mod Everyone
mod Ending
mod Handed
mod Finishing
pub mod Payloads
mod Takes
pub mod At_Home
pub mod Sent
