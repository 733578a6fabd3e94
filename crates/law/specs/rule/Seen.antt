-- What a seat's log tells its thread, with no look at the world.
use Rattle.std.specs.Prelude.{ℕ, ◌&&◌, Bool, List, [], ◌∷◌, Option, Some, None}
use Rattle.law.specs.declared.world.event.Dropped.{Dropped}
use Rattle.law.specs.declared.world.event.Step.{Step}
use Rattle.law.specs.declared.world.event.Step.TheVariants.{Lock, Unlock}
use Rattle.law.specs.world.Heap.{words_for}
use Rattle.law.specs.world.Steps.{stage_ok, lock_ok, hand_ok, own_ok}
use Rattle.law.specs.known.Items.{Part, part_of}
use Rattle.law.specs.known.Counts.{counts_of}
use Rattle.law.specs.known.Risen.{is_risen}
use Rattle.law.specs.known.Taken.{Blocks, taken_of}
use Rattle.law.specs.declared.rule.contents.Contents.{Contents}
use Rattle.law.specs.declared.rule.told.Moved.TheVariants as moves
use Rattle.law.specs.declared.rule.told.LogItem.{LogItem}
use Rattle.law.specs.declared.rule.told.LogItem.TheVariants.{Stepped}
use Rattle.law.specs.rule.Logs.{log_items}

-- the thread's own part of the world
abbrev pub part_seen : ℕ → List LogItem → Part
part_seen n log = part_of n (log_items log)

-- the local counts of its own objects
abbrev pub counts_seen : ℕ → List LogItem → ℕ → ℕ
counts_seen n log = counts_of n (log_items log)

-- what it has seen queued or merged
abbrev pub risen_seen : ℕ → List LogItem → Dropped → ℕ → Bool
risen_seen n log = is_risen n (log_items log)

-- the dead blocks that it has
abbrev pub taken_seen : ℕ → List LogItem → Blocks
taken_seen n log = taken_of n (log_items log)

-- the thread's own part allows the step
abbrev pub own_may : ℕ → Part → Step → Bool
own_may n part s =
    stage_ok part.row.stage s && lock_ok part.row.locked s && hand_ok part.row.hand s
    && own_ok (words_for n) part.row part.frame part.popped part.worklist part.has s

-- the contents of the object that the thread has locked, as its locking found them
abbrev pub contents_on : LogItem → Option Contents → Option Contents
contents_on (Stepped (Lock k) number (moves.Found c contents)) before = Some contents
contents_on (Stepped (Unlock change) number moved) before = None
contents_on x before = before

abbrev pub contents_locked : List LogItem → Option Contents
contents_locked [] = None
contents_locked (x ∷ log) = contents_on x (contents_locked log)
