-- Sections and scripts, as plain values.
use Rattle.std.specs.Prelude.{◌≤◌, not, List, length, Bool}
use Rattle.std.specs.List.{list_any}
use Rattle.brc_script.specs.declared.limits.TheConstants.{MOST_SECTIONS}
use Rattle.brc_script.specs.declared.script.Piece.{Piece}
use Rattle.brc_script.specs.declared.script.Piece.TheVariants as pieces
use Rattle.brc_script.specs.declared.script.Section.{Section}
use Rattle.brc_script.specs.Instructions.{NumberedLine, is_shared}

module _ {A : Type 0} where
  abbrev pub line_shares : NumberedLine A → Bool
  line_shares line = is_shared line.instruction

  -- one of its lines looks into the globals, or changes them
  abbrev pub shares : Piece A → Bool
  shares (pieces.One line) = line_shares line
  shares (pieces.Repeat times lines) = list_any line_shares lines

  -- no share, fetch or unshare is in it
  abbrev pub is_private : Section A → Bool
  is_private section = not (list_any shares section.pieces)

  -- a script has 1 to 63 sections
  pub record IsScript (sections : List (Section A)) : Type 0 where
    pub some : 1 ≤ length sections
    pub few : length sections ≤ MOST_SECTIONS
