pub mod Layout
pub mod Keys
pub mod Logs
pub mod Homes
pub mod Rule
pub mod Seen
pub mod Opening
pub mod Noted
