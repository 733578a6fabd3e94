pub mod Marks
mod FewPairs
