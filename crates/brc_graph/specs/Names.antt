-- The lines of sections above a report.
use Rattle.std.specs.Prelude.{ℕ, ◌&&◌, ◌||◌, ◌==◌, nat_le, Bool, false, List, [], ◌∷◌, length, Option, Some, None}
use Rattle.std.specs.List.{list_all}
use Rattle.brc_text.specs.Lines.{cut}
use Rattle.brc_graph.specs.declared.names.TheConstants.{MOST_NAME}

-- the name of a section: 1 to 32 of `a` to `z` and `0` to `9`
abbrev pub is_plain : ℕ → Bool
is_plain byte = (nat_le 97 byte && nat_le byte 122) || (nat_le 48 byte && nat_le byte 57)

unfoldable pub is_name : List ℕ → Bool
is_name bytes = nat_le 1 (length bytes) && nat_le (length bytes) MOST_NAME && list_all is_plain bytes

-- a space is first
abbrev pub begins_with_space : Option (List ℕ) → Bool
begins_with_space None = false
begins_with_space (Some []) = false
begins_with_space (Some (first ∷ rest)) = first == 32

-- a name, a colon, a space, and anything behind it
unfoldable pub is_printed : List ℕ → Bool
is_printed line = begins_with_space (cut 58 line).1 && is_name (cut 58 line).0
