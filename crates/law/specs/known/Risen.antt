-- What a thread has seen risen: an object whose state it found queued or merged, and which it has had since.
use Rattle.std.specs.Prelude.{ℕ, ◌%◌, ◌==◌, ◌&&◌, ◌||◌, not, Bool, false, List, [], ◌∷◌, Option}
use Rattle.brc_words.specs.declared.look.TheConstants.{ONE_COUNT}
use Rattle.law.specs.declared.world.event.Dropped.{Dropped}
use Rattle.law.specs.declared.world.event.Step.TheVariants.{SharedUp, Ask}
use Rattle.law.specs.world.Lists.{names}
use Rattle.law.specs.world.Steps.{dropped_cell}
use Rattle.law.specs.known.Items.{Item, Stepped, Loaded, Lost, Word, Of, Shared, Part, part_of, meant}

-- the cell that a place of the frame has, or the last entry of a block on the worklist
abbrev pub drop_in : Part → Dropped → Option ℕ
drop_in part drop = dropped_cell part.frame part.worklist part.has drop

-- the number of a shared word in another state than default
abbrev pub is_risen_word : ℕ → Bool
is_risen_word number = not (number % ONE_COUNT == 0)

abbrev pub is_shared_of : ℕ → Word → Bool
is_shared_of c (Of Shared d) = d == c
is_shared_of c _ = false

-- the item tells that the cell's state has risen: who counts up or asks is told its shared word, and so is who looks at
-- it
abbrev pub tells_risen : Part → ℕ → Item → Bool
tells_risen part c (Stepped (SharedUp source k) number entries) =
    names c (meant part (SharedUp source k)) && is_risen_word number
tells_risen part c (Stepped (Ask drop) number entries) = names c (meant part (Ask drop)) && is_risen_word number
tells_risen part c (Stepped s number entries) = false
tells_risen part c (Loaded word number) = is_shared_of c word && is_risen_word number
tells_risen part c (Lost word number) = is_shared_of c word && is_risen_word number

-- the place, or the entry, has had the cell since an item told that its state has risen
abbrev pub is_risen : ℕ → List Item → Dropped → ℕ → Bool
is_risen cells [] drop c = false
is_risen cells (x ∷ items) drop c = names c (drop_in (part_of cells (x ∷ items)) drop) &&
    (tells_risen (part_of cells items) c x || is_risen cells items drop c)
