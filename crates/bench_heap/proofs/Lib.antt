pub mod Chained
