pub mod Counter
pub mod Up
pub mod Standing
pub mod Released
pub mod Bounded
pub mod Seeking
