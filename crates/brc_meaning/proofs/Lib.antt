pub mod Sums
pub mod Calling
pub mod Turns
pub mod WrittenOut
pub mod Oks
pub mod WholeCalls
pub mod Keeping
pub mod WholeSteps
