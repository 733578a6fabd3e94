-- What a section comes to: its lines in order, and those of a `repeat` so many times, up to the first fault.
use Rattle.std.specs.Prelude.{◌≡◌, ℕ, zero, suc, List, [], ◌∷◌, ◌++◌, length, Option, Some, None, Result, Ok, Err}
use Rattle.std.specs.Prelude.{MatchResult}
use Rattle.std.specs.List.{repeat}
use Rattle.brc_words.specs.Faults.{number_of}
use Rattle.brc_words.specs.declared.fault.Fault.{Fault}
use Rattle.brc_script.specs.declared.script.Piece.{Piece}
use Rattle.brc_script.specs.declared.script.Piece.TheVariants as pieces
use Rattle.brc_script.specs.declared.script.Section.{Section}
use Rattle.brc_script.specs.Instructions.{NumberedLine}
use Rattle.brc_meaning.specs.declared.running.Halt.{Halt}
use Rattle.brc_meaning.specs.declared.state.State.{State}
use Rattle.brc_meaning.specs.States.{start}
use Rattle.brc_meaning.specs.Steps.{after}
use Rattle.brc_meaning.specs.Outcomes.{◌>>=◌, IsOwn}

-- the bytes that a section prints, the number and the line of the fault that ends it, and the number of objects that it
-- makes, none of which is an integer from -5 to 256
pub record Meaning : Type 0 where
  pub lines : List ℕ
  pub fault : Option (ℕ × ℕ)
  pub made : ℕ

-- where a section ended before its last line: the first fault, the line that met it, and what was there
pub record SectionStop (A : Type 0) : Type 0 where
  pub state : State A
  pub fault : Fault
  pub line : ℕ

module _ {A : Type 0} where
  -- a line whose instruction is refused changes nothing, and no line runs after it
  abbrev pub line_after : NumberedLine A → State A → Result (State A) (SectionStop A)
  line_after line s = elim (after line.instruction s) [
    | Ok next ↦ Ok next
    | Err fault ↦ Err (record { state = s; fault = fault; line = line.number })
  ]

  abbrev pub lines_after : List (NumberedLine A) → State A → Result (State A) (SectionStop A)
  lines_after [] s = Ok s
  lines_after (line ∷ lines) s = line_after line s >>= λ next. lines_after lines next

  abbrev pub times_after : ℕ → List (NumberedLine A) → State A → Result (State A) (SectionStop A)
  times_after zero lines s = Ok s
  times_after (suc times) lines s = lines_after lines s >>= λ next. times_after times lines next

  abbrev pub piece_after : Piece A → State A → Result (State A) (SectionStop A)
  piece_after (pieces.One line) s = line_after line s
  piece_after (pieces.Repeat times lines) s = times_after times lines s

  abbrev pub pieces_after : List (Piece A) → State A → Result (State A) (SectionStop A)
  pieces_after [] s = Ok s
  pieces_after (piece ∷ later) s = piece_after piece s >>= λ next. pieces_after later next

  -- all its lines in order, those of a `repeat` as often as it says
  abbrev pub written_out : List (Piece A) → List (NumberedLine A)
  written_out [] = []
  written_out (pieces.One line ∷ later) = line ∷ written_out later
  written_out (pieces.Repeat times lines ∷ later) = repeat times lines ++ written_out later

  -- the lines were run to what is meant; or to the fault that is meant, and its line
  abbrev pub EndsAsMeant : Result (Unit {0}) Halt → State A → Result (State A) (SectionStop A) → Type 0
  EndsAsMeant answer new meant = MatchResult answer
      (λ _. meant ≡ Ok new)
      (λ halt. IsOwn halt.fault → meant ≡ Err (record { state = new; fault = halt.fault; line = halt.line }))

  abbrev pub told : Result (State A) (SectionStop A) → Meaning
  told (Ok s) = record { lines = s.printed; fault = None; made = length s.objects }
  told (Err stop) = record {
    lines = stop.state.printed;
    fault = Some (number_of stop.fault, stop.line);
    made = length stop.state.objects;
  }

  -- the plain meaning of a section
  abbrev pub meaning : Section A → Meaning
  meaning section = told (pieces_after section.pieces start)
