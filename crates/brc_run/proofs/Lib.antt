mod Sent
mod Ordered
mod Taken
mod One_Heap
mod Left_Alone
mod Cleared
mod Retired_Quietly
mod Run_Told
mod Reported
mod Run_Laws
mod Tell_Laws
pub mod Put_Some
pub mod Cutting
