-- What a text says, line by line, and the script that its lines make up.
use Rattle.std.specs.Prelude.{◌≡◌, ◌≤◌, ℕ, ◌+◌, ◌++◌, ◌&&◌, not, Bool, true, List, [], ◌∷◌, length, map, decimal}
use Rattle.std.specs.List.{flat_map}
use Rattle.brc_words.specs.declared.limits.TheConstants.{MOST_INPUT}
use Rattle.brc_script.specs.declared.first_word.FirstWord.TheVariants as words
use Rattle.brc_script.specs.declared.script.Piece.{Piece}
use Rattle.brc_script.specs.declared.script.Piece.TheVariants as piece
use Rattle.brc_script.specs.declared.script.Section.{Section}
use Rattle.brc_script.specs.declared.row.ScriptRow.{ScriptRow}
use Rattle.brc_script.specs.declared.row.ScriptRow.TheVariants as rows
use Rattle.brc_script.specs.Instructions.{HasLine}
use Rattle.brc_script.specs.FirstWords.{first_word}
use Rattle.brc_script.specs.Operands.{is_times}
use Rattle.brc_script.specs.Rows.{is_idle, is_section_name}
use Rattle.brc_script.specs.Spellings.{spaced, spelled}
use Rattle.brc_script.specs.Walks.{lines_of, is_named}

module _ {A : Type 0} where
  -- the line spells this: nothing, `section NAME`, `repeat N`, `end`, or an instruction
  abbrev pub Says : List ℕ → ScriptRow A → Type 0
  Says line rows.Idle = is_idle line ≡ true
  Says line (rows.Section name) = (is_section_name name ≡ true) × (line ≡ spaced (first_word words.Section) name)
  Says line (rows.Repeat times) = (is_times times ≡ true) × (line ≡ spaced (first_word words.Repeat) (decimal times))
  Says line rows.End = line ≡ first_word words.End
  Says line (rows.Does instruction) = HasLine instruction.instruction × (line ≡ spelled instruction.instruction)

  -- an instruction knows the number of its line
  abbrev pub IsNumbered : ℕ → ScriptRow A → Type 0
  IsNumbered number (rows.Does instruction) = instruction.number ≡ number
  IsNumbered number _ = Unit {0}

  -- what the lines say, one after the other; the first has this number
  abbrev pub AreRows : ℕ → List (List ℕ) → List (ScriptRow A) → Type 0
  AreRows number [] [] = Unit {0}
  AreRows number (line ∷ lines) (row ∷ others) = Says line row × IsNumbered number row × AreRows
      (number + 1) lines others
  AreRows number _ _ = ⊥

  -- without the lines that say nothing
  abbrev pub said : List (ScriptRow A) → List (ScriptRow A)
  said [] = []
  said (rows.Idle ∷ others) = said others
  said (row ∷ others) = row ∷ said others

  -- what the lines of a piece, a section and a script say
  abbrev pub piece_rows : Piece A → List (ScriptRow A)
  piece_rows (piece.One line) = rows.Does line ∷ []
  piece_rows (piece.Repeat times lines) = rows.Repeat times ∷ (map (λ line. rows.Does line) lines ++ rows.End ∷ [])

  abbrev pub section_rows : Section A → List (ScriptRow A)
  section_rows section = rows.Section section.name ∷ flat_map piece_rows section.pieces

  abbrev pub script_rows : List (Section A) → List (ScriptRow A)
  script_rows sections = flat_map section_rows sections

  -- no section has the name of one before it
  abbrev pub are_new : List (Section A) → List (Section A) → Bool
  are_new before [] = true
  are_new before (section ∷ sections) =
      not (is_named section.name before) && are_new (before ++ section ∷ []) sections

  -- the text is of this script: its lines, but for those that say nothing, say what the script's do, in order
  pub record IsTextOf (text : List ℕ) (sections : List (Section A)) : Type 0 where
    pub short : length text ≤ MOST_INPUT
    pub rows : List (ScriptRow A)
    pub lines : AreRows 1 (lines_of text) rows
    pub are : said rows ≡ script_rows sections
    pub names : are_new [] sections ≡ true
