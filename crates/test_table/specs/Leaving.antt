-- What a thread's part is as it closes its queue words in turn, in a heap of 512 cells, or opens them again.
use Rattle.std.specs.Prelude.{◌≡◌, ◌<◌, ◌≤◌, ℕ, ◌==◌, nat_le, true, if◌then◌else◌, List, [], replicate, None}
use Rattle.std.specs.Prelude.{slice_set}
use Rattle.brc_words.specs.declared.limits.TheConstants.{FIRST_MORTAL}
use Rattle.law.specs.declared.world.row.Stage.{Stage}
use Rattle.law.specs.declared.world.row.Stage.TheVariants as stages
use Rattle.law.specs.world.Lists.{is_bare, is_unmarked}
use Rattle.law.specs.world.Steps.{is_free_hand}
use Rattle.law.specs.known.Items.{Part}
use Rattle.law.specs.declared.rule.told.LogItem.{LogItem}
use Rattle.law.specs.rule.Seen.{part_seen, counts_seen}

-- an active thread with an empty frame and a free hand; it has nothing locked, popped or to be taken apart
pub record HoldsNothing (part : Part) : Type 0 where
  pub active : part.row.stage ≡ stages.Active
  pub hand : is_free_hand part.row.hand ≡ true
  pub unlocked : part.row.locked ≡ None
  pub bare : is_bare part.frame ≡ true
  pub unmarked : is_unmarked part.worklist ≡ true
  pub popped : part.popped ≡ replicate 16 0

-- it counts no object on its own
abbrev pub CountsNone : List LogItem → Type 0
CountsNone log = (c : ℕ) → FIRST_MORTAL ≤ c → c < 512 → counts_seen 512 log c ≡ 0

-- the stage with the words below this one closed
abbrev pub closed_below : ℕ → Stage
closed_below word = if word == 0 then stages.Active else (if word == 16 then stages.Left else stages.Closing word)

-- what is popped then: the word of cell 266 had these bits, and the others none
abbrev pub popped_below : ℕ → ℕ → List ℕ
popped_below bits word = if nat_le word 8 then replicate 16 0 else slice_set (replicate 16 0) 8 bits

abbrev pub closing_at : ℕ → ℕ → Part → Part
closing_at bits word part = record part {
  row = record part.row { stage = closed_below word };
  popped = popped_below bits word;
}

-- all are closed
abbrev pub left_with : ℕ → Part → Part
left_with bits part = closing_at bits 16 part

-- the stage with the words below this one open again
abbrev pub opened_below : ℕ → Stage
opened_below word = if word == 0 then stages.Opening 0 else (if word == 16 then stages.Active else stages.Opening word)

abbrev pub opening_at : ℕ → Part → Part
opening_at word part = record part { row = record part.row { stage = opened_below word } }

-- a thread's part is that of one that has done nothing
abbrev pub IsAsNew : List LogItem → Type 0
IsAsNew log = part_seen 512 log ≡ part_seen 512 []
