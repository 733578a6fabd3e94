-- What a thread's own log tells of what lives. A cell that a place of its frame has, or an entry of a private cell that
-- isn't dead, isn't dead; and each own step fits what stood before it.
use Rattle.std.specs.Prelude.{◌≡◌, ℕ, Bool, true, false, List, [], ◌∷◌, Some, slice_get}
use Rattle.law.specs.world.Lists.{place_at, is_marked}
use Rattle.law.specs.declared.world.event.Step.TheVariants.{Lock, Birth, Free}
use Rattle.law.specs.declared.rule.contents.Contents.{Contents}
use Rattle.law.specs.declared.rule.told.Moved.TheVariants as moves
use Rattle.law.specs.declared.rule.told.LogItem.{LogItem}
use Rattle.law.specs.declared.rule.told.LogItem.TheVariants.{Stepped}
use Rattle.law.specs.rule.Logs.{entries_in}
use Rattle.law.specs.rule.Seen.{part_seen}
use Rattle.law.specs.payloads.Payloads.{private_seen, payloads_of, FindsOwn}

-- the cell is on the worklist of the log's thread: its object is dead, and the cell not yet given back
abbrev pub is_dead : ℕ → List LogItem → ℕ → Bool
is_dead n log c = is_marked (part_seen n log).worklist c

-- What is held isn't dead: a place of the frame holds its cell, and a private cell that isn't dead holds its entries.
pub record Living (n : ℕ) (log : List LogItem) : Type 0 where
  pub placed : (k c : ℕ) → place_at (part_seen n log).frame k ≡ Some c → is_dead n log c ≡ false
  pub entered : (c i d : ℕ) (payload : Contents) → payloads_of n log c ≡ Some payload → is_dead n log c ≡ false
      → slice_get (entries_in payload) i ≡ Some d → is_dead n log d ≡ false

-- A locking found what was the thread's own; a cell that was given back was dead; and a cell in which an object was
-- born wasn't private.
abbrev pub ItemFits : ℕ → List LogItem → LogItem → Type 0
ItemFits n before (Stepped (Lock k) number (moves.Found c found)) = FindsOwn n before c found
ItemFits n before (Stepped (Free c) number moved) = is_dead n before c ≡ true
ItemFits n before (Stepped (Birth c kind k) number moved) = private_seen n before c ≡ false
ItemFits n before x = Unit {0}

-- so of each item of the log, and what is held isn't dead after it
abbrev pub OwnLog : ℕ → List LogItem → Type 0
OwnLog n [] = Unit {0}
OwnLog n (x ∷ log) = OwnLog n log × ItemFits n log x × Living n (x ∷ log)
