pub mod Answered
pub mod Errands_Done
pub mod One_Heap
pub mod Reversing
pub mod Sent
pub mod Traded
pub mod Turning
pub mod Zipped
