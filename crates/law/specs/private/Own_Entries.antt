-- What private cells lead to: where a thread puts its own cells alone into private ones, they lead to its own alone.
use Rattle.std.specs.Prelude.{◌≡◌, ℕ, nat_lt, ◌&&◌, ◌||◌, not, Bool, true, List, [], ◌∷◌, Option, Some, None, slice_get}
use Rattle.brc_words.specs.declared.limits.TheConstants.{GLOBALS}
use Rattle.law.specs.declared.world.event.Step.{Step}
use Rattle.law.specs.declared.world.event.Step.TheVariants.{Unlock}
use Rattle.law.specs.world.Heap.{Heap, entries_at}
use Rattle.law.specs.world.Steps.{locked_cell}
use Rattle.law.specs.known.Items.{Item, Stepped, Loaded, Lost, part_of}
use Rattle.law.specs.private.Private.{place_put, is_in, locked_told, private_of}

-- a private cell, or one below the globals, which nobody changes
abbrev pub is_own : (ℕ → Bool) → ℕ → Bool
is_own set c = set c || nat_lt c GLOBALS

abbrev pub is_own_or_none : (ℕ → Bool) → Option ℕ → Bool
is_own_or_none set None = true
is_own_or_none set (Some c) = is_own set c

-- an unlock of a private cell puts an own one into it, or none
abbrev pub puts_own : List (Option ℕ) → Option ℕ → (ℕ → Bool) → Step → Bool
puts_own frame into set (Unlock change) =
    not (is_in set into) || is_own_or_none set (locked_cell frame (place_put change))
puts_own frame into set _ = true

abbrev pub puts_own_on : List (Option ℕ) → Option ℕ → (ℕ → Bool) → Item → Bool
puts_own_on frame into set (Stepped s number entries) = puts_own frame into set s
puts_own_on frame into set (Loaded word number) = true
puts_own_on frame into set (Lost word number) = true

-- each of the thread's items did so
abbrev pub keeps_own : ℕ → List Item → Bool
keeps_own cells [] = true
keeps_own cells (x ∷ items) = keeps_own cells items && puts_own_on (part_of cells items).frame (locked_told cells items)
    (private_of cells items) x

-- the entries of private cells are own ones, also those that a dead block still has
abbrev pub OwnEntries : Heap → (ℕ → Bool) → Type 0
OwnEntries h set = (d i e : ℕ) → set d ≡ true → slice_get (entries_at h d) i ≡ Some e → is_own set e ≡ true
