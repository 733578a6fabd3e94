-- The dead blocks that a thread has taken and not yet given back, newest first, with the entries that they still have:
-- as its own items tell them.
use Rattle.std.specs.Prelude.{ℕ, ◌==◌, Bool, true, false, if◌then◌else◌, List, [], ◌∷◌, Option, Some, None}
use Rattle.law.specs.declared.world.event.Dropped.{Dropped}
use Rattle.law.specs.declared.world.event.Dropped.TheVariants as dropped
use Rattle.law.specs.declared.world.event.Step.{Step}
use Rattle.law.specs.world.Lists.{front_of}
use Rattle.law.specs.world.Steps.{gone, takes_block, is_free_step}
use Rattle.law.specs.known.Items.{Item, Stepped, Loaded, Lost, Part, part_of, meant, cell_told}

-- a cell with the entries of its block
abbrev pub Blocks : Type 0
Blocks = List (ℕ × List ℕ)

-- the entries of a block that is listed
abbrev pub listed_at : Blocks → ℕ → Option (List ℕ)
listed_at [] c = None
listed_at (b ∷ blocks) c = if b.0 == c then Some b.1 else listed_at blocks c

-- the entries of a cell, where it is marked
abbrev pub entries_if : Bool → List ℕ → Option (List ℕ)
entries_if marked entries = if marked then Some entries else None

-- a block loses its last entry, or is given back
abbrev pub cut : ℕ → Blocks → Blocks
cut d [] = []
cut d (b ∷ blocks) = (b.0, if b.0 == d then front_of b.1 else b.1) ∷ cut d blocks

abbrev pub off : ℕ → Blocks → Blocks
off c [] = []
off c (b ∷ blocks) = if b.0 == c then off c blocks else b ∷ off c blocks

abbrev pub cut_by : Option Dropped → Blocks → Blocks
cut_by None blocks = blocks
cut_by (Some (dropped.Frame k)) blocks = blocks
cut_by (Some (dropped.Work d)) blocks = cut d blocks

abbrev pub taken_on : Bool → Bool → ℕ → List ℕ → Blocks → Blocks
taken_on true takes c entries blocks = off c blocks
taken_on false true c entries blocks = (c, entries) ∷ blocks
taken_on false false c entries blocks = blocks

abbrev pub taken_by : Step → ℕ → List ℕ → Option ℕ → Blocks → Blocks
taken_by s number entries None blocks = blocks
taken_by s number entries (Some c) blocks = taken_on (is_free_step s) (takes_block s (cell_told s number)) c entries
    (cut_by (gone s (cell_told s number)) blocks)

abbrev pub taken_after : Part → Blocks → Item → Blocks
taken_after part blocks (Stepped s number entries) = taken_by s number entries (meant part s) blocks
taken_after part blocks (Loaded word number) = blocks
taken_after part blocks (Lost word number) = blocks

abbrev pub taken_of : ℕ → List Item → Blocks
taken_of cells [] = []
taken_of cells (x ∷ items) = taken_after (part_of cells items) (taken_of cells items) x
