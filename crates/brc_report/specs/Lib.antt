pub mod Tables
pub mod Holding
pub mod Cycles
pub mod Walking
pub mod Reports
pub mod Running
pub mod Spelled
pub mod Texts
