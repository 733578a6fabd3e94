pub mod Within
pub mod Fronts
