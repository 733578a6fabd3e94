pub mod Words
pub mod Contents
pub mod Closing
pub mod Ending
pub mod Desk
pub mod Shared
pub mod Lasting
