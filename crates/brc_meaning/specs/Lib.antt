pub mod Outcomes
pub mod Objects
pub mod States
pub mod Steps
pub mod Sections
pub mod Wholes
