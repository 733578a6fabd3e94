-- The cycles of a world, which its text doesn't name.
use Rattle.std.specs.Prelude.{◌≡◌, ◌++◌, ◌==◌, ℕ, List, [], ◌∷◌, Option, Some, None, if◌then◌else◌, nat_lt, map}
use Rattle.std.specs.Option.{option_map}
use Rattle.brc_words.specs.declared.kind.Kind.TheVariants as kinds
use Rattle.brc_report.specs.declared.content.Remain.{Remain}
use Rattle.brc_report.specs.Cycles.{in_front, AreCycles}
use Rattle.brc_graph.specs.declared.drawn.Drawn.{Drawn}
use Rattle.brc_graph.specs.declared.drawn.Drawn.TheVariants as drawn
use Rattle.brc_graph.specs.Reports.{cycle_drawn}

-- the lower of two cells, the second if there is one
abbrev pub lower : ℕ → Option ℕ → ℕ
lower cell None = cell
lower cell (Some other) = if nat_lt other cell then other else cell

-- who holds this cell, if a container holds an entry besides
abbrev pub with_holder : Option (ℕ × ℕ) → ℕ → Option ℕ → Option ℕ
with_holder None q others = others
with_holder (Some link) q others = if link.1 == q then Some (lower link.0 others) else others

-- an object that a container holds, as a remain; a walk along holders doesn't look at kinds
abbrev pub held_object : (ℕ → Option ℕ) → Option ℕ → Option Remain
held_object holder None = None
held_object holder (Some cell) =
    option_map (λ by. record { cell = cell; kind = kinds.Nothing; held_by = by }) (holder cell)

module _ {A : Type 0} where
  -- the container and its entry, of a line of an entry
  abbrev pub link_of : Drawn A → Option (ℕ × ℕ)
  link_of (drawn.Entry cell index entry) = Some (cell, entry)
  link_of _ = None

  -- the cell, of a line of an object in a world
  abbrev pub object_of : Drawn A → Option ℕ
  object_of (drawn.Object cell kind) = Some cell
  object_of _ = None

  -- the lowest container that has the cell as an entry
  abbrev pub holder_in : List (Drawn A) → ℕ → Option ℕ
  holder_in [] q = None
  holder_in (line ∷ others) q = with_holder (link_of line) q (holder_in others q)

  -- those of some of the lines, in their order
  abbrev pub held_among : List (Drawn A) → List (Drawn A) → List Remain
  held_among all [] = []
  held_among all (line ∷ others) = in_front (held_object (holder_in all) (object_of line)) (held_among all others)

  -- what the lines draw, and behind it a box for each cycle along the lowest holders of the objects
  pub record HasBoxes (lines boxed : List (Drawn A)) : Type 0 where
    pub cycles : List (List ℕ)
    pub found : AreCycles (held_among lines lines) cycles
    pub behind : boxed ≡ lines ++ map cycle_drawn cycles
