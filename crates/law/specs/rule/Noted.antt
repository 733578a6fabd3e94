-- What a seat has noted since its last step. A look changes nothing, and so what it found may be used, where it stays
-- while others step.
use Rattle.std.specs.Prelude.{ℕ, ◌==◌, ◌&&◌, Bool, false, if◌then◌else◌, List, [], ◌∷◌, Option, Some, None}
use Rattle.law.specs.declared.world.event.Step.{Step}
use Rattle.law.specs.declared.known.word.Field.{Field}
use Rattle.law.specs.declared.known.word.Word.{Word}
use Rattle.law.specs.declared.known.word.Word.TheVariants.{Of}
use Rattle.law.specs.known.Items.{same_field}
use Rattle.law.specs.declared.rule.told.LogItem.{LogItem}
use Rattle.law.specs.declared.rule.told.LogItem.TheVariants.{Stepped, Loaded, Lost}
use Rattle.law.specs.rule.Seen.{counts_seen}

-- this word of the cell
abbrev pub is_of : Field → ℕ → Word → Bool
is_of field c (Of other d) = same_field field other && (d == c)
is_of field c _ = false

-- a step of the thread's own ends what its notes tell
abbrev pub noted_on : Field → ℕ → LogItem → Option ℕ → Option ℕ
noted_on field c (Stepped s number moved) before = None
noted_on field c (Loaded word number) before = if is_of field c word then Some number else before
noted_on field c (Lost word number) before = if is_of field c word then Some number else before

-- the number that the newest look at this word of the cell found, where the thread has only looked since
abbrev pub noted : Field → ℕ → List LogItem → Option ℕ
noted field c [] = None
noted field c (x ∷ log) = noted_on field c x (noted field c log)

-- the newest of the thread's own steps
abbrev pub newest_on : LogItem → Option Step → Option Step
newest_on (Stepped s number moved) before = Some s
newest_on (Loaded word number) before = before
newest_on (Lost word number) before = before

abbrev pub newest_step : List LogItem → Option Step
newest_step [] = None
newest_step (x ∷ log) = newest_on x (newest_step log)

-- the cell's own count as the thread's log told it before the newest of the thread's own steps
abbrev pub counted_on : ℕ → ℕ → LogItem → List LogItem → ℕ → ℕ
counted_on n c (Stepped s number moved) log before = counts_seen n log c
counted_on n c (Loaded word number) log before = before
counted_on n c (Lost word number) log before = before

abbrev pub counted_before : ℕ → ℕ → List LogItem → ℕ
counted_before n c [] = 0
counted_before n c (x ∷ log) = counted_on n c x log (counted_before n c log)
