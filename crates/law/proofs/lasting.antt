pub mod Reasons
pub mod Lasting
pub mod Telling
pub mod Standing
pub mod Adding_Hands
pub mod Progress
pub mod Ranges_Law
