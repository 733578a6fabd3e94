-- Which remains and cycles a text of a report spells.
use Rattle.std.specs.Prelude.{◌&&◌, not, ℕ, List, Bool, length, nat_lt}
use Rattle.std.specs.List.{list_all}
use Rattle.brc_words.specs.Kinds.{is_mortal}
use Rattle.brc_words.specs.declared.limits.TheConstants.{FIRST_MORTAL}
use Rattle.brc_report.specs.declared.content.Remain.{Remain}

-- a mortal cell, of a kind that has a word
abbrev pub is_spelled : Remain → Bool
is_spelled remain = not (nat_lt remain.cell FIRST_MORTAL) && is_mortal remain.kind

abbrev pub all_spelled : List Remain → Bool
all_spelled remains = list_all is_spelled remains

-- a cycle has a cell
abbrev pub has_cells : List ℕ → Bool
has_cells cells = nat_lt 0 (length cells)

abbrev pub all_have_cells : List (List ℕ) → Bool
all_have_cells cycles = list_all has_cells cycles
