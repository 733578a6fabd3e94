-- The words that a client's contracts cite: of a frame, which handles it owns before and after a call, and whether it
-- has anything locked.
pub use Rattle.brc_count.specs.Frames.{FrameSeen, HandleSeen, Owns, IsUnlocked}
pub use Rattle.brc_count.specs.Owned.{Keeps, Gains, Loses, Trades, GoesOn}
-- the same of values, and a handle of the frame's to None, which goes in with a scalar
pub use Rattle.brc_things.specs.Values.{OwnsValue, StandsApart, GainsValue, LosesValue, HasNone, OwnsSwapped, OwnsPutValue}
-- and which of the many handles that a client keeps it owns
pub use Rattle.brc_handles.specs.Handles.{Holds, OwnsEach, IsApart, filled, slot}
pub use Rattle.brc_handles.specs.Standing.{Stands, Besides, KeepsStanding}
