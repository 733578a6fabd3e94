pub mod Waited
pub mod One_History
pub mod Rows_Law
pub mod Within_Law
mod Valued_Law
mod Valued_Plain
mod Valued_Refusals
mod Valued_Pairs
mod Still_Law
pub mod Joining
pub mod Standing
pub mod Shown
pub mod Locked
pub mod Sharing
pub mod Indexed
mod Placed
mod Since_Law
