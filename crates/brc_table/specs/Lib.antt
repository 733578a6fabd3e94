pub mod Shown
pub mod Seated
pub mod Opening
pub mod Machine
pub mod Moving
pub mod Knowing
pub mod Rest
pub mod Moment
pub mod Numbers
pub mod Queued
pub use Rattle.brc_block.specs as block
pub use Rattle.law.specs as law
