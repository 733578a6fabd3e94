-- The lowest place or cell of a thread that keeps it from a step.
use Rattle.std.specs.Prelude.{ℕ, zero, suc, ◌==◌, ◌&&◌, not, Bool, true, false, Option, Some, None, is_some, length}
use Rattle.law.specs.world.Lists.{place_at, bit_of, is_marked}
use Rattle.law.specs.world.Heap.{Heap, cell_at, frame_at, popped_at, worklist_at}
use Rattle.law.specs.world.Steps.{is_owned_by}
use Rattle.brc_trace.specs.declared.lowest.SoughtThread.{SoughtThread}
use Rattle.brc_trace.specs.declared.lowest.SoughtThread.TheVariants as sought

-- whether the place or cell with this number is one that is sought
abbrev pub is_sought : Heap → ℕ → SoughtThread → ℕ → Bool
is_sought h t sought.Filled n = is_some (place_at (frame_at h t) n)
is_sought h t sought.Popped n = bit_of (popped_at h t) n == 1
is_sought h t sought.Work n = is_marked (worklist_at h t) n
is_sought h t sought.Owned n = is_owned_by t (cell_at h n).owner && not (is_marked (worklist_at h t) n)

-- the numbers below this one are those of the thread's places, or of all cells
abbrev pub end_of : Heap → ℕ → SoughtThread → ℕ
end_of h t sought.Filled = length (frame_at h t)
end_of h t sought.Popped = length h.cells
end_of h t sought.Work = length h.cells
end_of h t sought.Owned = length h.cells

-- a number that was found, or else this one, where it is one that is sought
abbrev pub or_here : Option ℕ → Bool → ℕ → Option ℕ
or_here (Some found) here n = Some found
or_here None true n = Some n
or_here None false n = None

-- the lowest number below n that is sought
unfoldable pub lowest : Heap → ℕ → SoughtThread → ℕ → Option ℕ
lowest h t what zero = None
lowest h t what (suc n) = or_here (lowest h t what n) (is_sought h t what n) n

-- the lowest of all
abbrev pub lowest_at : Heap → ℕ → SoughtThread → Option ℕ
lowest_at h t what = lowest h t what (end_of h t what)
