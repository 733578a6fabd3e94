-- What a frame keeps, after its holdings changed.
use Rattle.std.proofs.Common.{◌≡◌, ℕ, true, refl, ap, ◌∙◌}
use Rattle.brc_table.specs.law.world.Steps.{is_active, is_left}
use Rattle.brc_table.specs.law.world.Lists.{is_blank}
use Rattle.brc_table.specs.law.declared.world.row.Stage.{Stage}
use Rattle.brc_table.specs.law.declared.world.row.Stage.TheVariants as stages
use Rattle.brc_biased.specs.Standing.{may_give_up}
use Rattle.brc_table.specs.law.rule.Seen.{part_seen}
use Rattle.brc_count.specs.Frames.{FrameSeen, Framing, KeepsRest, IsActive, IsUnlocked, MayGiveUp, popped_seen}

-- the thread is as active as it was, and nothing is popped that wasn't
pub framing_on : {A : Type 0} (old new : FrameSeen A) (thread : ℕ) → Framing old thread
    → new.seat.thread ≡ old.seat.thread → KeepsRest old new
    → popped_seen new ≡ popped_seen old → Framing new thread
framing_on old new thread keeps same rest popped = record {
  same_thread = same ∙ keeps.same_thread;
  some_thread = keeps.some_thread;
  active = ap is_active rest.stage ∙ keeps.active;
  blank = ap is_blank popped ∙ keeps.blank;
}

module _ {A : Type 0} where
  pub active_on : {old new : FrameSeen A} → KeepsRest old new → IsActive old → IsActive new
  active_on rest is = ap is_active rest.stage ∙ is

  pub gives_on : {old new : FrameSeen A} → KeepsRest old new → MayGiveUp old → MayGiveUp new
  gives_on rest may = ap may_give_up rest.stage ∙ may

  pub unlocked_on : {old new : FrameSeen A} → KeepsRest old new → IsUnlocked old → IsUnlocked new
  unlocked_on rest none = rest.lock ∙ none

  -- a thread that is active may give references up
  pub active_gives : (frame : FrameSeen A) → IsActive frame → MayGiveUp frame
  active_gives frame = may (part_seen frame.heap.cells frame.seat.log).row.stage
    where
      may : (stage : Stage) → is_active stage ≡ true → may_give_up stage ≡ true
      may stages.Active is = refl
      may (stages.Closing words) is = cc
      may (stages.Opening words) is = cc
      may stages.Left is = refl

  pub left_gives : (frame : FrameSeen A) → is_left (part_seen frame.heap.cells frame.seat.log).row.stage ≡ true
      → MayGiveUp frame
  left_gives frame = may (part_seen frame.heap.cells frame.seat.log).row.stage
    where
      may : (stage : Stage) → is_left stage ≡ true → may_give_up stage ≡ true
      may stages.Active is = refl
      may (stages.Closing words) is = cc
      may (stages.Opening words) is = cc
      may stages.Left is = refl
