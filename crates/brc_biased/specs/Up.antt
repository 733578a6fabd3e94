-- Counting up: what a caller owes, and which event it is.
use Rattle.std.specs.Prelude.{◌≡◌, ◌%◌, ◌==◌, not, ◌<◌, ℕ, Bool, true, List, ◌∷◌, Some}
use Rattle.brc_words.specs.declared.look.TheConstants.{ONE_COUNT}
use Rattle.brc_table.specs.law.declared.world.event.Source.{Source}
use Rattle.brc_table.specs.law.declared.world.event.Step.TheVariants.{LocalUp, SharedUp}
use Rattle.brc_table.specs.law.known.Items.{meant}
use Rattle.brc_table.specs.law.known.Going_On.{Known}
use Rattle.brc_table.specs.law.known.Locked.{locked_of}
use Rattle.brc_table.specs.law.declared.rule.told.Moved.TheVariants.{Nothing}
use Rattle.brc_table.specs.law.declared.rule.told.LogItem.{LogItem}
use Rattle.brc_table.specs.law.declared.rule.told.LogItem.TheVariants.{Stepped}
use Rattle.brc_table.specs.law.rule.Logs.{log_items}
use Rattle.brc_table.specs.law.rule.Seen.{part_seen, counts_seen, taken_seen, own_may}

-- the thread's own part allows that the place gets a reference to the source's cell
pub record Raising (n : ℕ) (log : List LogItem) (source : Source) (k c : ℕ) : Type 0 where
  pub own : own_may n (part_seen n log) (LocalUp source k) ≡ true
  pub cell : meant (part_seen n log) (LocalUp source k) ≡ Some c

-- the thread has a local count of the cell, and may go on
pub record CountsHere (n limit : ℕ) (log : List LogItem) (c : ℕ) : Type 0 where
  pub some_count : 0 < counts_seen n log c
  pub below : counts_seen n log c < limit

-- the log has one step more, of an immortal, which was told some number
pub record RaisedImmortal (source : Source) (k : ℕ) (before log : List LogItem) : Type 0 where
  pub found : ℕ
  pub told : log ≡ Stepped (LocalUp source k) found Nothing ∷ before

-- the log has one step more, on a shared word; risen says that it found another state than default
pub record RaisedShared (source : Source) (k : ℕ) (before log : List LogItem) (risen : Bool) : Type 0 where
  pub found : ℕ
  pub told : log ≡ Stepped (SharedUp source k) found Nothing ∷ before
  pub says : risen ≡ not (found % ONE_COUNT == 0)

-- what a log tells its thread besides the counts, which are the counter's own matter: its part of the world, the dead
-- blocks that it has, and what it has locked
pub record KnowsPart (n : ℕ) (log : List LogItem) (now : Known) : Type 0 where
  pub part : part_seen n log ≡ now.part
  pub blocks : taken_seen n log ≡ now.blocks
  pub lock : locked_of (log_items log) ≡ now.lock
