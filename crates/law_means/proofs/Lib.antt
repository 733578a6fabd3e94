pub mod Within_Law
pub mod Fronts_Law
pub mod Private_Lines
