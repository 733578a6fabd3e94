-- What a run says of a thread's ledger since its number was last registered.
use Rattle.std.specs.Prelude.{◌≡◌, ℕ, ◌+◌, ◌==◌, ◌&&◌, Bool, true, false, List, [], ◌∷◌}
use Rattle.std.specs.List.{sum_by}
use Rattle.law.specs.declared.world.event.Event.{Event}
use Rattle.law.specs.declared.world.event.Step.{Step}
use Rattle.law.specs.declared.world.event.Step.TheVariants.{Register}
use Rattle.law.specs.world.Lists.{one}
use Rattle.law.specs.world.Heap.{Heap, row_at}
use Rattle.law.specs.world.Steps.{is_free_step}
use Rattle.law.specs.world.Runs.{world_after}
use Rattle.law.specs.world.Holding.{lives_at, lives_by, is_birth, IsOncePerBirth}

-- the step registers this number
abbrev pub registers_number : ℕ → Step → Bool
registers_number t (Register u) = u == t
registers_number t _ = false

-- a count begins again, or goes on
abbrev pub counted_since : Bool → ℕ → ℕ → ℕ
counted_since true before more = 0
counted_since false before more = before + more

-- how many of the thread's steps count, since its number was last registered
abbrev pub steps_since : (Step → Bool) → ℕ → List Event → ℕ
steps_since counts t [] = 0
steps_since counts t (e ∷ run) = counted_since ((e.thread == 0) && registers_number t e.step) (steps_since counts t run)
    (one ((e.thread == t) && counts e.step))

-- how many of all steps count
abbrev pub steps_in : (Step → Bool) → List Event → ℕ
steps_in counts [] = 0
steps_in counts (e ∷ run) = steps_in counts run + one (counts e.step)

-- What the run says of lives and ledgers is so in its world, in either edition: each thread's ledger since its number
-- was last registered, and all ledgers with those of numbers that were used before.
pub record HistoriesSince (start : Heap) (run : List Event) : Type 0 where
  pub lives : (c : ℕ) → lives_at (world_after start run) c ≡ lives_by run c
  pub allocs : (t : ℕ) → (row_at (world_after start run) t).allocs ≡ steps_since is_birth t run
  pub frees : (t : ℕ) → (row_at (world_after start run) t).frees ≡ steps_since is_free_step t run
  pub all_allocs : sum_by (λ row. row.allocs) (world_after start run).rows + (world_after start run).past_allocs
      ≡ steps_in is_birth run
  pub all_frees : sum_by (λ row. row.frees) (world_after start run).rows + (world_after start run).past_frees
      ≡ steps_in is_free_step run
  pub deaths : IsOncePerBirth start run
