pub mod Cells
mod Spelled
