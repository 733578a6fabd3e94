mod Gathered
mod Named
mod Placed
mod Beside
mod Putting
mod Born_Lists
mod Marking
mod Spending
pub mod Statuses
mod Alike
mod Unchanged
