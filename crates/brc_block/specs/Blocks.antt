-- A list of blocks as cell numbers and payloads.
use Rattle.std.specs.Prelude.{◌≡◌, ℕ, List, [], ◌∷◌, ◌++◌, length, take, Option, Some, None, Box}
use Rattle.brc_block.specs.Payload.{kind_of, entries_of, keys_of}
use Rattle.brc_block.specs.declared.payload.Payload.{Payload}
use Rattle.brc_block.specs.declared.worklist.Node.{Node}

-- the block on top and those below it
abbrev pub blocks_of : {A : Type 0} → Option (Box (Node A) A) → List (ℕ × Payload A)
blocks_of None = []
blocks_of (Some node) = (node.value.cell, node.value.payload) ∷ node.value.below

-- the cell of the front
abbrev pub front_cell : {P : Type 0} → List (ℕ × P) → Option ℕ
front_cell [] = None
front_cell (block ∷ below) = Some block.0

-- what the front holds
abbrev pub front_payload : {P : Type 0} → List (ℕ × P) → Option P
front_payload [] = None
front_payload (block ∷ below) = Some block.1

-- the entries of the front
abbrev pub front_entries : {A : Type 0} → List (ℕ × Payload A) → List ℕ
front_entries [] = []
front_entries (block ∷ below) = entries_of block.1

-- the front loses its last entry, of a dictionary with its key; its cell, its kind and the blocks below it stay
pub record PopsEntry {A : Type 0} (old new : List (ℕ × Payload A)) (entry : ℕ) : Type 0 where
  pub cell : ℕ
  pub held : Payload A
  pub left : Payload A
  pub below : List (ℕ × Payload A)
  pub before : old ≡ (cell, held) ∷ below
  pub after : new ≡ (cell, left) ∷ below
  pub entries : entries_of held ≡ entries_of left ++ entry ∷ []
  pub keys : keys_of left ≡ take (length (entries_of left)) (keys_of held)
  pub kind : kind_of left ≡ kind_of held

-- as far as a list of blocks counts
abbrev pub most_counted : ℕ
most_counted = 18446744073709551615
