-- No thread is stuck by a condition: whatever it has in its hand it can go on with, and whatever it holds it can give
-- up. Another thread's lock aside; nothing is said of when it does.
use Rattle.std.specs.Prelude.{◌≡◌, ◌≢◌, ℕ, ◌||◌, true, false, if◌then◌else◌, None}
use Rattle.law.specs.declared.world.cell.Cell.{Cell}
use Rattle.law.specs.declared.world.event.Step.{Step}
use Rattle.law.specs.declared.world.event.Step.TheVariants.{InitLocal, InitShared, LocalDown, SeeZero, Untie, MergeZero}
use Rattle.law.specs.declared.world.event.Step.TheVariants.{Ask, LastDown, Enqueue, MergeAdd}
use Rattle.law.specs.declared.world.event.Dropped.{Dropped}
use Rattle.law.specs.declared.world.event.LastDropped.TheVariants as lasts
use Rattle.law.specs.declared.world.row.Hand.TheVariants as hands
use Rattle.law.specs.declared.world.row.Phase.{Phase}
use Rattle.law.specs.declared.world.row.Phase.TheVariants as phases
use Rattle.law.specs.declared.world.row.Stage.{Stage}
use Rattle.law.specs.declared.world.row.Stage.TheVariants as stages
use Rattle.law.specs.world.Heap.{Heap, row_at, is_registered, is_gathered, is_immortal}
use Rattle.law.specs.world.Steps.{is_mine, is_default, is_merged, is_nobody}

-- a registered thread that isn't gathered
pub record IsPresent (h : Heap) (t : ℕ) : Type 0 where
  pub registered : is_registered h t ≡ true
  pub here : is_gathered h t ≡ false

-- with nothing in its hand, no lock, neither closing nor opening
pub record IsAtRest (h : Heap) (t : ℕ) : Type 0 where
  pub stands : IsPresent h t
  pub hand : (row_at h t).hand ≡ hands.Free
  pub unlocked : (row_at h t).locked ≡ None
  pub not_closing : (n : ℕ) → (row_at h t).stage ≢ stages.Closing n
  pub not_opening : (n : ℕ) → (row_at h t).stage ≢ stages.Opening n

-- what a thread does next with the cell in its hand; a ready one is born in any vacant place
abbrev pub next_step : Phase → ℕ → Cell → Step
next_step phases.Claimed c x = InitLocal c
next_step phases.Counted c x = InitShared c
next_step phases.Ready c x = InitShared c
next_step phases.Zero c x = SeeZero c
next_step phases.Over c x = Untie c
next_step phases.Untied c x = MergeZero c
next_step phases.Asked c x = Enqueue c
next_step phases.Shut c x = if is_nobody x.owner then LastDown lasts.Hand else Untie c
next_step phases.Taking c x = MergeAdd c
next_step phases.Held c x = LastDown lasts.Hand
next_step phases.Popping c x = MergeAdd c
next_step phases.Offered c x = Untie c
next_step phases.Yielding c x = MergeAdd c

-- how a place or an entry is given up at the least: by the owner; by asking; once asked for or merged, by the shared
-- word
abbrev pub release_step : ℕ → Stage → ℕ → Cell → Dropped → Step
release_step t stage c x drop =
    if is_immortal c || is_mine t stage x then LocalDown drop else (if is_default x.state then Ask drop else LastDown
    (lasts.Dropped drop))

-- how a popped entry is dealt with
abbrev pub popped_step : ℕ → Cell → Step
popped_step c x = if is_merged x.state then LastDown (lasts.Popped c) else Untie c
