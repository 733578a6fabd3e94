pub mod Moving
pub mod Handing
pub mod Exchanging
pub mod Allowing
