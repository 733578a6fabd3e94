-- What stands on standard error where the program, or what it was asked for, is refused.
use Rattle.std.specs.Prelude.{◌≡◌, ◌⊎◌, ℕ, List, [], ◌∷◌, ◌++◌, codes, decimal, Option, Some, None}
use Rattle.std.specs.Io.KnownBytes.{Appends}
use Rattle.brc_words.specs.declared.fault.Fault.{Fault}
use Rattle.brc_words.specs.declared.fault.Fault.TheVariants as faults
use Rattle.brc_words.specs.declared.fault.Reason.TheVariants as reasons
use Rattle.brc_words.specs.Faults.{number_of, name_of}
use Rattle.brc_text.specs.Puts.{PutsUpTo}
use Rattle.brc_trace.specs.declared.explaining.Unreplayed.{Unreplayed}
use Rattle.brc_trace.specs.declared.explaining.Why.{Why}
use Rattle.brc_program.specs.declared.failed.Failed.{Failed}
use Rattle.brc_program.specs.declared.failed.Failed.TheVariants as fails
use Rattle.brc_mistakes.specs.declared.mistake.Mistake.{Mistake}
use Rattle.brc_mistakes.specs.Texts.{mistake_text}
use Rattle.brc_program.specs.declared.unread.Unread.{Unread}
use Rattle.brc_program.specs.Explanations.{together, why_line}
use Rattle.brc_program.specs.Unreads.{unread_line}
use Rattle.brc_program.specs.Statuses.{status_of_failed}

-- a line of the text is not this
abbrev pub bad_line : ℕ → List ℕ → List ℕ
bad_line line what = together (codes "brc: line " ∷ decimal line ∷ codes ": not " ∷ what ∷ (10 ∷ []) ∷ [])

-- a fault by its number and its name
abbrev pub numbered_line : ℕ → List ℕ → List ℕ
numbered_line number name = together (codes "brc: fault " ∷ decimal number ∷ codes " " ∷ name ∷ (10 ∷ []) ∷ [])

-- the line of a fault
abbrev pub fault_line : Fault → List ℕ
fault_line faults.BadOptions = codes "brc: bad command line" ++ (10 ∷ [])
fault_line (faults.BadTrace line reasons.NotALine) = bad_line line (codes "a trace line")
fault_line (faults.BadTrace line reasons.NotEnabled) = bad_line line (codes "enabled")
fault_line (faults.BadScript line) = bad_line line (codes "a script line")
fault_line fault = numbered_line (number_of fault) (name_of fault)

-- and behind it that of why it came, where that is known
abbrev pub with_why : List ℕ → Option Why → List ℕ
with_why line None = line
with_why line (Some why) = line ++ why_line why

abbrev pub unreplayed_text : Unreplayed → List ℕ
unreplayed_text failed = with_why (fault_line failed.fault) failed.why

-- what is wrong with a bad line of a script
abbrev pub mistake_line : Mistake → List ℕ
mistake_line mistake = codes "brc: why: " ++ (mistake_text mistake ++ (10 ∷ []))

-- which line isn't one of a script, and why
abbrev pub unscripted_text : ℕ → Mistake → List ℕ
unscripted_text line mistake = bad_line line (codes "a script line") ++ mistake_line mistake

-- that the command line is bad, and why
abbrev pub uncommanded_text : Unread → List ℕ
uncommanded_text unread = (codes "brc: bad command line" ++ (10 ∷ [])) ++ unread_line unread

-- a fault by its line, and that of why it came; a text without a graph by the line that can't stand there; a bad line of
-- a script and a bad command line with what is wrong
abbrev pub told_text : Failed → List ℕ
told_text (fails.Fault unreplayed) = unreplayed_text unreplayed
told_text (fails.NoGraph line) = bad_line line (codes "a report or world line")
told_text (fails.NoScript line mistake) = unscripted_text line mistake
told_text (fails.NoCommand unread) = uncommanded_text unread

-- all of it stands behind what was there, and the status is that of what failed; or a front of it does, and the status
-- is 5
abbrev pub WritesError : Option (List ℕ) → Option (List ℕ) → Failed → ℕ → Type 0
WritesError old new failed status =
    (Appends old new (told_text failed) × (status ≡ status_of_failed failed))
    ⊎ ((rest : List ℕ) × PutsUpTo old new (told_text failed) rest × (status ≡ 5))

-- some text stands behind what was there, and the status stays; or a front of it does, and the status is 5
abbrev pub TellsNotes : Option (List ℕ) → Option (List ℕ) → ℕ → ℕ → Type 0
TellsNotes old new status ended = (text : List ℕ) × ((Appends old new text × (ended ≡ status))
    ⊎ ((rest : List ℕ) × PutsUpTo old new text rest × (ended ≡ 5)))
