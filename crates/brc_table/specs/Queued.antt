-- What an entry into a queue word tells.
use Rattle.std.specs.Prelude.{◌≡◌, ℕ, if◌then◌else◌, List, ◌∷◌}
use Rattle.law.specs.declared.world.event.Step.TheVariants.{Enqueue}
use Rattle.law.specs.declared.world.row.Hand.{Hand}
use Rattle.law.specs.declared.world.row.Hand.TheVariants as hands
use Rattle.law.specs.declared.world.row.Phase.TheVariants as phases
use Rattle.law.specs.declared.rule.told.Moved.TheVariants.{Nothing}
use Rattle.law.specs.declared.rule.told.LogItem.{LogItem}
use Rattle.law.specs.declared.rule.told.LogItem.TheVariants.{Stepped}
use Rattle.law.specs.known.Items.{is_shut_word}
use Rattle.brc_table.specs.declared.merging.Enqueued.{Enqueued}
use Rattle.brc_table.specs.declared.merging.Enqueued.TheVariants.{Accepted, Closed}

-- a queue word with bit 63 is closed, and takes nothing
abbrev pub answer_of : ℕ → Enqueued
answer_of number = if is_shut_word number then Closed else Accepted

-- the cell was to go into a queue, and the answer is that of the number that was found there
pub record IsEnqueued (cell : ℕ) (answer : Enqueued) (old new : List LogItem) : Type 0 where
  pub found : ℕ
  pub told : new ≡ Stepped (Enqueue cell) found Nothing ∷ old
  pub answered : answer ≡ answer_of found

-- what is in the hand then: nothing, or the reference still, which is to be merged in place of the owner
abbrev pub hand_left : ℕ → Enqueued → Hand
hand_left cell Accepted = hands.Free
hand_left cell Closed = hands.Busy phases.Shut cell
