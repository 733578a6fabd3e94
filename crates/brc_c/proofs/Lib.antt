mod OwnerBox
mod HeldBox
mod Sent
pub mod Made
mod Room
