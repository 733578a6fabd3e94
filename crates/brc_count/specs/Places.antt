-- What contracts see of the places of a frame.
use Rattle.std.specs.Prelude.{◌≡◌, ◌≢◌, ℕ, List, Option, is_some, is_none, count_by, slice_index_or, Some, None}
use Rattle.brc_count.specs.declared.held.PlaceEntry.{PlaceEntry}

-- what each place has, if anything, and which place is filled next
pub record PlacesSeen : Type 0 where
  pub slots : List (Option PlaceEntry)
  pub next : ℕ

-- what a place has
abbrev pub held_at : PlacesSeen → ℕ → Option PlaceEntry
held_at places k = slice_index_or places.slots k None

-- the cell of what is held
abbrev pub cell_held : Option PlaceEntry → Option ℕ
cell_held None = None
cell_held (Some held) = Some held.cell

-- how many have a reference, and how many more can be filled without memory
abbrev pub held_in : PlacesSeen → ℕ
held_in places = count_by is_some places.slots

abbrev pub spare_in : PlacesSeen → ℕ
spare_in places = count_by is_none places.slots

-- the place has this now, and every other what it had
pub record Updates (old new : PlacesSeen) (k : ℕ) (held : Option PlaceEntry) : Type 0 where
  pub changed : held_at new k ≡ held
  pub others : (other : ℕ) → other ≢ k → held_at new other ≡ held_at old other
