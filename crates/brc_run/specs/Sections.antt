-- What is shown of a section.
use Rattle.std.specs.Prelude.{ℕ, List, [], ◌∷◌, ◌++◌, Option, Some, None, codes, decimal}
use Rattle.std.specs.List.{flat_map}
use Rattle.brc_text.specs.Lines.{pieces}
use Rattle.brc_run.specs.Names.{fault_name}

-- a printed line, behind the section's name
abbrev pub told_line : List ℕ → List ℕ → List ℕ
told_line name line = name ++ (codes ": " ++ (line ++ (10 ∷ [])))

-- the lines of a text, one after the other; a last one that lacks its line feed gets one
unfoldable pub told_lines : List ℕ → List ℕ → List ℕ
told_lines name text = flat_map (λ piece. told_line name piece.0) (pieces text)

-- a fault's line, of the words in it
abbrev pub fault_line_of : List ℕ → List ℕ → List ℕ → List ℕ → List ℕ
fault_line_of name number word line =
    name ++ (codes ": fault " ++ (number ++ (codes " " ++ (word ++ (codes " line " ++ (line ++ (10 ∷ [])))))))

-- `NAME: fault N FAULT line L`, of the fault's number and its line's
abbrev pub fault_line : List ℕ → ℕ × ℕ → List ℕ
fault_line name fault = fault_line_of name (decimal fault.0) (fault_name fault.0) (decimal fault.1)

abbrev pub fault_part : List ℕ → Option (ℕ × ℕ) → List ℕ
fault_part name None = []
fault_part name (Some fault) = fault_line name fault

-- the section's lines, and the fault that ended it, if one did
unfoldable pub section_text : List ℕ → List ℕ → Option (ℕ × ℕ) → List ℕ
section_text name lines fault = told_lines name lines ++ fault_part name fault
