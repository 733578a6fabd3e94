-- The free words: one bit a cell, which says whether the cell is free. And what stands in the owner word of a cell in
-- which no object lives.
--
-- This heap's own choice: a search for a free cell looks at 64 cells at once (docs/DECISIONS.md).
use Rattle.std.specs.Prelude.{◌≡◌, ℕ, zero, suc, ◌+◌, ◌*◌, ◌/◌, ◌^◌, ◌<◌, nat_lt, ◌&&◌, Bool, length}
use Rattle.brc_words.specs.declared.owner.Owner.{Owner}
use Rattle.brc_words.specs.declared.owner.Owner.TheVariants as owners
use Rattle.law.specs.world.Lists.{one}
use Rattle.law.specs.world.Heap.{Heap, cell_at}
use Rattle.law.specs.world.Steps.{is_free}

-- one word for 64 cells
abbrev pub free_words_for : ℕ → ℕ
free_words_for cells = (cells + 63) / 64

-- the number of so many bits, each as told
abbrev pub bits_told : (ℕ → Bool) → ℕ → ℕ
bits_told f zero = 0
bits_told f (suc i) = one (f i) * 2 ^ i + bits_told f i

-- One of the heap's cells, and free. Past the last cell nothing is, though `no_cell` is read there.
abbrev pub is_free_cell : Heap → ℕ → Bool
is_free_cell h c = nat_lt c (length h.cells) && is_free (cell_at h c).owner

-- bit i of word k says of cell 64 k + i whether it is free
abbrev pub free_bits : Heap → ℕ → ℕ
free_bits h k = bits_told (λ i. is_free_cell h (k * 64 + i)) 64

-- The number is one that may stand in an owner word. While an object lives there, it is its owner's: 0, or a thread.
-- In a cell that is free or claimed it means nothing, and is what stood there last: 0, or a thread that was registered.
abbrev pub ShowsOwner : ℕ → Owner → ℕ → Type 0
ShowsOwner threads owners.Nobody number = number ≡ 0
ShowsOwner threads (owners.Thread t) number = number ≡ t
ShowsOwner threads (owners.Claimed t) number = number < threads
ShowsOwner threads owners.Free number = number < threads
