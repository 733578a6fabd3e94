pub mod Private
pub mod Own_Entries
