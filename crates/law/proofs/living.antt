pub mod Earlier
pub mod Quiet_Items
pub mod Own_Logs_Law
