mod Few
mod Beside
mod Follows_Of
mod Looks
mod Sums_Read
mod Shows_As
mod Plain_Refusals
mod Stands_For
pub mod Causes_Of
