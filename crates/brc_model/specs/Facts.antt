-- The holder map as a list of facts, which is how the program keeps it.
use Rattle.std.specs.Prelude.{ℕ, ◌==◌, ◌&&◌, Bool, false, cond, List, Option, Some, None}
use Rattle.std.specs.List.{list_any, find, filter_map}
use Rattle.brc_words.specs.declared.kind.Kind.{Kind}
use Rattle.brc_words.specs.declared.kind.Kind.TheVariants as kinds
use Rattle.brc_model.specs.declared.holder.Holder.{Holder}
use Rattle.brc_model.specs.declared.fact.Fact.{Fact}
use Rattle.brc_model.specs.declared.fact.Fact.TheVariants.{Lives, Holds, Contains}
use Rattle.brc_model.specs.Holders.{Map, same_holder}

-- the fact says that the object lives
abbrev pub says_lives : ℕ → Fact → Bool
says_lives c (Lives object kind) = c == object
says_lives c (Holds object holder) = false
says_lives c (Contains cell object) = false

-- the fact says that this place, no entry, holds the object
abbrev pub says_held : ℕ → Holder → Fact → Bool
says_held c h (Lives object kind) = false
says_held c h (Holds object holder) = (c == object) && same_holder h holder
says_held c h (Contains cell object) = false

-- the object in the cell's entry, where the fact speaks of one
abbrev pub entry_in : ℕ → Fact → Option ℕ
entry_in c (Lives object kind) = None
entry_in c (Holds object holder) = None
entry_in c (Contains cell object) = cond (c == cell) (Some object) None

-- the kind that a fact about a life gives
abbrev pub kind_said : Option Fact → Kind
kind_said None = kinds.Nothing
kind_said (Some (Lives object kind)) = kind
kind_said (Some (Holds object holder)) = kinds.Nothing
kind_said (Some (Contains cell object)) = kinds.Nothing

-- the cell's entries, in their order
abbrev pub entries_in : List Fact → ℕ → List ℕ
entries_in facts c = filter_map (entry_in c) facts

-- the map that the facts spell: what no fact says isn't so
abbrev pub map_of : List Fact → Map
map_of facts = record {
  live = λ c. list_any (says_lives c) facts;
  kind = λ c. kind_said (find (says_lives c) facts);
  entries = entries_in facts;
  held = λ c h. list_any (says_held c h) facts;
}
