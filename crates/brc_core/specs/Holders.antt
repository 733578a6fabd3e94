-- The parts of a world in which holders stand, at places that are numbered from 0.
use Rattle.std.specs.Prelude.{ℕ, zero, suc, ◌==◌, Bool, List, [], ◌++◌, length, slice_get}
use Rattle.brc_core.specs.declared.holders.HolderPart.{HolderPart}
use Rattle.brc_core.specs.declared.holders.HolderPart.TheVariants as parts
use Rattle.brc_model.specs.declared.holder.Holder.{Holder}
use Rattle.brc_model.specs.declared.holder.Holder.TheVariants as holders
use Rattle.law.specs.world.Lists.{names, place_at, bit_of}
use Rattle.law.specs.world.Heap.{Heap, entries_at, row_at, frame_at, popped_at, queue_at}
use Rattle.law.specs.world.Holding.{if_so, carries}

-- how many places the part has
abbrev pub count_in : Heap → HolderPart → ℕ
count_in h (parts.Frame t) = length (frame_at h t)
count_in h (parts.Entries c) = length (entries_at h c)
count_in h parts.Queues = length h.rows
count_in h parts.Popped = length h.rows
count_in h parts.Hands = length h.rows

-- whether the part's place with this number holds the cell q
abbrev pub holds : Heap → HolderPart → ℕ → ℕ → Bool
holds h (parts.Frame t) q k = names q (place_at (frame_at h t) k)
holds h (parts.Entries c) q i = names q (slice_get (entries_at h c) i)
holds h parts.Queues q t = bit_of (queue_at h t) q == 1
holds h parts.Popped q t = bit_of (popped_at h t) q == 1
holds h parts.Hands q t = carries q (row_at h t).hand

-- the holder that it then is
abbrev pub holder_in : HolderPart → ℕ → ℕ → Holder
holder_in (parts.Frame t) q k = holders.Frame t k
holder_in (parts.Entries c) q i = holders.Entry c i
holder_in parts.Queues q t = holders.Queue t q
holder_in parts.Popped q t = holders.Popped t q
holder_in parts.Hands q t = holders.Hand t q

-- what f makes of each number below another, one after the other
abbrev pub below : (ℕ → List Holder) → ℕ → List Holder
below f zero = []
below f (suc n) = below f n ++ f n

-- the holders of the cell in the part; in all frames; among the entries of all cells
abbrev pub in_part : Heap → HolderPart → ℕ → List Holder
in_part h part q = below (λ k. if_so (holds h part q k) (holder_in part q k)) (count_in h part)

abbrev pub in_frames : Heap → ℕ → List Holder
in_frames h q = below (λ t. in_part h (parts.Frame t) q) (length h.rows)

abbrev pub in_entries : Heap → ℕ → List Holder
in_entries h q = below (λ c. in_part h (parts.Entries c) q) (length h.cells)
