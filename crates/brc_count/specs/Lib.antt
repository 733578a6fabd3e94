pub mod Places
pub mod PlaceList
pub mod Frames
pub mod Owned
pub mod Locking
pub mod Polling
pub mod Closing
pub mod Making
pub use Rattle.brc_biased.specs as biased
pub use Rattle.brc_table.specs.block as block
pub use Rattle.brc_table.specs.law as law
pub use Rattle.brc_table.specs as table
