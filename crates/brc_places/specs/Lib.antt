pub mod Placing
pub mod Calls
pub mod Value_Calls
pub mod Reading
pub mod Stacking
pub mod Stack_Turns
