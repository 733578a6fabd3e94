-- Who holds a cell, and what remains.
use Rattle.std.specs.Prelude.{ℕ, List, [], ◌∷◌, Bool, ◌==◌, nat_lt, if◌then◌else◌, Option, Some, None}
use Rattle.std.specs.List.{list_any}
use Rattle.std.specs.Option.{option_map}
use Rattle.brc_words.specs.declared.limits.TheConstants.{FIRST_MORTAL}
use Rattle.brc_report.specs.declared.content.Content.{Content}
use Rattle.brc_report.specs.declared.content.Remain.{Remain}

-- the cell is among the cells
abbrev pub has : List ℕ → ℕ → Bool
has cells cell = list_any (λ other. other == cell) cells

-- a list with one more in front, where both are there
abbrev pub joined : {R : Type 0} → Option R → Option (List R) → Option (List R)
joined None rest = None
joined (Some first) None = None
joined (Some first) (Some rest) = Some (first ∷ rest)

module _ {A : Type 0} where
  -- the first of the cells whose contents have this one; of contents that rise by cell it is the lowest
  abbrev pub holder_of : List (Content A) → ℕ → Option ℕ
  holder_of [] cell = None
  holder_of (content ∷ contents) cell =
      if has content.entries cell then Some content.cell else holder_of contents cell

  -- a remain has its cell's kind, and names the holder
  abbrev pub remain_of : List (Content A) → Content A → Option Remain
  remain_of contents content =
      option_map (λ holder. record { cell = content.cell; kind = content.kind; held_by = holder })
      (holder_of contents content.cell)

  -- the remains among some of the contents: their mortal cells in their order; none where one of these has no holder
  abbrev pub remains_among : List (Content A) → List (Content A) → Option (List Remain)
  remains_among contents [] = Some []
  remains_among contents (content ∷ rest) =
      if nat_lt content.cell FIRST_MORTAL then remains_among contents rest
      else joined (remain_of contents content) (remains_among contents rest)

  -- the remains of the contents
  abbrev pub remains_of : List (Content A) → Option (List Remain)
  remains_of contents = remains_among contents contents
