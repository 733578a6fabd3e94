-- The sections that the lines of a text build up, one line at a time, or else the first bad line.
use Rattle.std.specs.Prelude.{◌≡◌, ℕ, ◌+◌, ◌++◌, ◌&&◌, not, nat_lt, if◌then◌else◌, Bool, true, false, List, [], ◌∷◌}
use Rattle.std.specs.Prelude.{length, map, Option, Some, None, is_some, Result, Ok, Err}
use Rattle.std.specs.List.{list_any}
use Rattle.std.specs.Str.{bytes_eq}
use Rattle.brc_words.specs.declared.fault.Fault.{Fault}
use Rattle.brc_words.specs.declared.fault.Fault.TheVariants as faults
use Rattle.brc_words.specs.declared.limits.TheConstants.{MOST_INPUT}
use Rattle.brc_text.specs.Tokens.{◌>>=◌}
use Rattle.brc_text.specs.Lines.{cut, pieces}
use Rattle.brc_script.specs.declared.limits.TheConstants.{MOST_SECTIONS}
use Rattle.brc_script.specs.declared.first_word.FirstWord.{FirstWord}
use Rattle.brc_script.specs.declared.first_word.FirstWord.TheVariants as words
use Rattle.brc_script.specs.declared.script.Piece.{Piece}
use Rattle.brc_script.specs.declared.script.Piece.TheVariants as piece
use Rattle.brc_script.specs.declared.script.Section.{Section}
use Rattle.brc_script.specs.declared.row.ScriptRow.{ScriptRow}
use Rattle.brc_script.specs.declared.row.ScriptRow.TheVariants as rows
use Rattle.brc_script.specs.declared.progress.Progress.{Progress}
use Rattle.brc_script.specs.Instructions.{NumberedLine}
use Rattle.brc_script.specs.FirstWords.{first_word_at}
use Rattle.brc_script.specs.Rows.{row_at}

-- ---- lines

-- the lines of a text; the last one may lack its line feed
unfoldable pub lines_of : List ℕ → List (List ℕ)
lines_of text = map (λ line. line.0) (pieces text)

-- the word with which a line begins, also where the line is bad
unfoldable pub opening : List ℕ → Option FirstWord
opening line = first_word_at (cut 32 line).0

-- whether an open `repeat` is closed, where a line with this first word decides it
abbrev pub decided : Option FirstWord → Option Bool
decided (Some words.End) = Some true
decided (Some words.Section) = Some false
decided (Some words.Repeat) = Some false
decided _ = None

abbrev pub or_later : Option Bool → Bool → Bool
or_later None later = later
or_later (Some closed) later = closed

-- the first of the lines that begins with `end`, `section` or `repeat` begins with `end`
unfoldable pub is_closed : List (List ℕ) → Bool
is_closed [] = false
is_closed (line ∷ lines) = or_later (decided (opening line)) (is_closed lines)

abbrev pub is_section : Option FirstWord → Bool
is_section (Some words.Section) = true
is_section _ = false

abbrev pub starts_section : List ℕ → Bool
starts_section line = is_section (opening line)

-- ---- what one line adds

module _ {A : Type 0} where
  -- the sections so far, with the one that is being read
  abbrev pub closed_by : List (Section A) → Option (List ℕ) → List (Piece A) → List (Section A)
  closed_by done None pieces = done
  closed_by done (Some name) pieces = done ++ record { name = name; pieces = pieces } ∷ []

  abbrev pub sections_of : Progress A → List (Section A)
  sections_of progress = closed_by progress.done progress.name progress.pieces

  abbrev pub is_named : List ℕ → List (Section A) → Bool
  is_named name sections = list_any (λ section. bytes_eq section.name name) sections

  -- a section begins: there are fewer than 63, none has this name, and no `repeat` is open
  unfoldable pub begin : Progress A → List ℕ → Option (Progress A)
  begin progress name =
      if not (is_some progress.times) && (nat_lt (length (sections_of progress)) MOST_SECTIONS
      && not (is_named name (sections_of progress)))
      then Some (record { done = sections_of progress; name = Some name; pieces = []; times = None; lines = [] })
      else None

  -- a `repeat` in a section, which is closed by an `end`
  unfoldable pub open_repeat : Progress A → ℕ → Bool → Option (Progress A)
  open_repeat progress times closed =
      if is_some progress.name && (not (is_some progress.times) && closed)
      then Some (record progress { times = Some times; lines = [] }) else None

  abbrev pub close_by : Progress A → Option ℕ → Option (Progress A)
  close_by progress None = None
  close_by progress (Some times) =
      Some (record progress {
        pieces = progress.pieces ++ piece.Repeat times progress.lines ∷ [];
        times = None;
        lines = [];
      })

  -- an `end` after a `repeat`
  unfoldable pub close_repeat : Progress A → Option (Progress A)
  close_repeat progress = close_by progress progress.times

  abbrev pub add_by : Progress A → Option ℕ → NumberedLine A → Option (Progress A)
  add_by progress None line =
      if is_some progress.name then Some (record progress { pieces = progress.pieces ++ piece.One line ∷ [] }) else None
  add_by progress (Some times) line = Some (record progress { lines = progress.lines ++ line ∷ [] })

  -- an instruction in a section, repeated or not
  unfoldable pub add : Progress A → NumberedLine A → Option (Progress A)
  add progress line = add_by progress progress.times line

  -- what a line adds, by what it says and by the lines behind it; none where it can't stand there
  abbrev pub taken : Progress A → ScriptRow A → List (List ℕ) → Option (Progress A)
  taken progress rows.Idle later = Some progress
  taken progress (rows.Section name) later = begin progress name
  taken progress (rows.Repeat times) later = open_repeat progress times (is_closed later)
  taken progress rows.End later = close_repeat progress
  taken progress (rows.Does line) later = add progress line

  unfoldable pub turn_at : Progress A → ℕ → List ℕ → List (List ℕ) → Option (Progress A)
  turn_at progress number line later = row_at number line >>= λ row. taken progress row later

  -- ---- all lines

  abbrev pub onward : ℕ → (Progress A → Result (Progress A) ℕ) → Option (Progress A) → Result (Progress A) ℕ
  onward number others None = Err number
  onward number others (Some next) = others next

  -- the lines, of which the first has this number
  unfoldable pub walk : Progress A → ℕ → List (List ℕ) → Result (Progress A) ℕ
  walk progress number [] = Ok progress
  walk progress number (line ∷ lines) =
      onward number (λ next. walk next (number + 1) lines) (turn_at progress number line lines)

  abbrev pub nothing : Progress A
  nothing = record { done = []; name = None; pieces = []; times = None; lines = [] }

  abbrev pub finished : Result (Progress A) ℕ → Result (List (Section A)) ℕ
  finished (Err bad) = Err bad
  finished (Ok progress) = if is_some progress.name then Ok (sections_of progress) else Err 1

  -- the script that the text spells, or the number of its first bad line: 0 where it has more than 16,777,216 bytes, 1
  -- where no line begins with `section`
  unfoldable pub script_at : List ℕ → Result (List (Section A)) ℕ
  script_at text =
      if nat_lt MOST_INPUT (length text) then Err 0
      else if list_any starts_section (lines_of text) then finished (walk nothing 1 (lines_of text))
      else Err 1

-- ---- what a reader answers

-- a bad line is told, and memory may run out; there is no other fault
abbrev pub RefusesScript : {X : Type 0} → Fault → Result X ℕ → Type 0
RefusesScript faults.OutOfMemory read = Unit {0}
RefusesScript (faults.BadScript bad) read = read ≡ Err bad
RefusesScript _ read = ⊥

-- the answer is what the text spells
abbrev pub ReadsScript : {X : Type 0} → Result X Fault → Result X ℕ → Type 0
ReadsScript (Ok answer) read = read ≡ Ok answer
ReadsScript (Err fault) read = RefusesScript fault read
