pub mod Remaining
pub mod Membership
pub mod Walks
pub mod Searching
pub mod Unique
pub mod Writing
pub mod Coming_Back
pub mod Spelling
