-- Runs: lists of events, each enabled where the events before it lead. The newest event stands first, so that one more
-- event is one more case.
use Rattle.std.specs.Prelude.{◌≡◌, ℕ, true, List, [], ◌∷◌}
use Rattle.law.specs.declared.world.event.Event.{Event}
use Rattle.law.specs.declared.world.edition.Edition.{Edition}
use Rattle.law.specs.world.Heap.{Heap, opening_in, AreOptions}
use Rattle.law.specs.world.Steps.{enabled, after}

-- the world that the events lead to from another
abbrev pub world_after : Heap → List Event → Heap
world_after start [] = start
world_after start (e ∷ run) = after (world_after start run) e

-- each event is enabled where it stands
abbrev pub IsRun : Heap → List Event → Type 0
IsRun start [] = Unit {0}
IsRun start (e ∷ run) = IsRun start run × (enabled (world_after start run) e ≡ true)

-- some run of a heap of some edition with these options leads to the world
pub record IsReached (h : Heap) : Type 0 where
  pub edition : Edition
  pub cells : ℕ
  pub limit : ℕ
  pub options : AreOptions cells limit
  pub run : List Event
  pub is_run : IsRun (opening_in edition cells limit) run
  pub leads_here : world_after (opening_in edition cells limit) run ≡ h
