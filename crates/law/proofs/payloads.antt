pub mod Own_Puts
pub mod Small_Contents
pub mod Payloads_Law
pub mod Going_On
pub mod Leading
