-- What the world of a running table has from its start on.
use Rattle.std.proofs.Common.{◌≡◌, ℕ, ◌==◌, nat_lt, Bool, true, false, if◌then◌else◌, List, [], ◌∷◌, length, Option}
use Rattle.std.proofs.Common.{Some, None, refl, ◌∙◌, ap}
use Rattle.law.specs.declared.world.edition.Edition.{Edition}
use Rattle.law.specs.declared.world.event.Step.{Step}
use Rattle.law.specs.declared.world.event.Step.TheVariants.{Register}
use Rattle.law.specs.world.Steps.{after, after_target, root_after, registered, registered_again, target_at}
use Rattle.law.specs.declared.world.event.Event.{Event}
use Rattle.law.specs.world.Heap.{Heap, opening, AreOptions}
use Rattle.law.specs.world.Runs.{IsRun, IsReached, world_after}
use Rattle.law.specs.world.Sound.{IsSound}
use Rattle.law.specs.world.Since.{HistoriesSince}
use Rattle.law.proofs.world.Recounting.{run_histories_since}
use Rattle.law.proofs.world.Lifetimes.{run_edition}
use Rattle.law.proofs.world.Reached.{reached_sound}
use Rattle.law.proofs.lasting.Ranges_Law as ranges
use Rattle.law.specs.known.Start.{runs_in, start_of}

-- each world of a run is reached
pub run_reached : (cells limit : ℕ) (run : List Event) → AreOptions cells limit → IsRun (start_of cells limit) run
    → IsReached (world_after (start_of cells limit) run)
run_reached cells limit run options is_run = record {
  edition = runs_in;
  cells = cells;
  limit = limit;
  options = options;
  run = run;
  is_run = is_run;
  leads_here = refl;
}

pub run_sound : (cells limit : ℕ) (run : List Event) → AreOptions cells limit → IsRun (start_of cells limit) run
    → IsSound (world_after (start_of cells limit) run)
run_sound cells limit run options is_run = reached_sound (world_after (start_of cells limit) run)
    (run_reached cells limit run options is_run)

-- what the run says of lives and ledgers is so
pub run_histories : (cells limit : ℕ) (run : List Event) → AreOptions cells limit → IsRun (start_of cells limit) run
    → HistoriesSince (start_of cells limit) run
run_histories cells limit run options is_run = run_histories_since runs_in cells limit run options is_run

-- and goes by the table's edition
pub run_runs_in : (cells limit : ℕ) (run : List Event) → (world_after (start_of cells limit) run).edition ≡ runs_in
run_runs_in cells limit run = run_edition (start_of cells limit) run

-- ---- what does not depend on the edition

-- what an event does to a world is the same in either edition
abbrev in_edition : Edition → Heap → Heap
in_edition edition h = record h { edition = edition }

event_alike : (edition : Edition) (h : Heap) (e : Event) → after (in_edition edition h) e ≡ in_edition edition
    (after h e)
event_alike edition h e = by_thread (e.thread == 0)
  where
    by_number : (u : ℕ) (b : Bool)
        → (if b then registered_again (in_edition edition h) u else registered (in_edition edition h))
        ≡ in_edition edition (if b then registered_again h u else registered h)
    by_number u true = refl
    by_number u false = refl

    by_step : (s : Step) → root_after (in_edition edition h) s ≡ in_edition edition (root_after h s)
    by_step (Register u) = by_number u (nat_lt u (length h.rows))
    by_step _ = refl

    by_target : (t : ℕ) (s : Step) (o : Option ℕ) → after_target (in_edition edition h) t s o ≡ in_edition edition
        (after_target h t s o)
    by_target t s None = refl
    by_target t s (Some c) = refl

    by_thread : (b : Bool) → (if b then root_after (in_edition edition h) e.step else after_target
        (in_edition edition h) e.thread e.step (target_at (in_edition edition h) e.thread e.step))
        ≡ in_edition edition (if b then root_after h e.step else after_target h e.thread e.step
        (target_at h e.thread e.step))
    by_thread true = by_step e.step
    by_thread false = by_target e.thread e.step (target_at h e.thread e.step)

run_alike : (edition : Edition) (start : Heap) (run : List Event) → world_after (in_edition edition start) run
    ≡ in_edition edition (world_after start run)
run_alike edition start [] = refl
run_alike edition start (e ∷ run) = ap (λ w. after w e) (run_alike edition start run)
    ∙ event_alike edition (world_after start run) e

pub run_limit : (cells limit : ℕ) (run : List Event) → (world_after (start_of cells limit) run).limit ≡ limit
run_limit cells limit run = ap (λ z. z.limit) (run_alike runs_in (opening cells limit) run)
    ∙ ranges.run_limit cells limit run
