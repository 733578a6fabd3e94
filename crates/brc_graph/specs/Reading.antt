-- The graph that a text has, or else its first line that can't stand there.
use Rattle.std.specs.Prelude.{◌≡◌, ℕ, ◌+◌, ◌++◌, nat_lt, if◌then◌else◌, Bool, List, [], ◌∷◌, length, Option, Some, None}
use Rattle.std.specs.Prelude.{Result, Ok, Err}
use Rattle.brc_words.specs.declared.limits.TheConstants.{MOST_INPUT}
use Rattle.brc_text.specs.Lines.{pieces}
use Rattle.brc_graph.specs.declared.drawn.Drawn.{Drawn}
use Rattle.brc_graph.specs.declared.part.TextPart.{TextPart}
use Rattle.brc_graph.specs.declared.part.TextPart.TheVariants as parts
use Rattle.brc_graph.specs.declared.undrawn.Undrawn.{Undrawn}
use Rattle.brc_graph.specs.declared.undrawn.Undrawn.TheVariants as undrawn
use Rattle.brc_graph.specs.Lines.{step_at}
use Rattle.brc_graph.specs.Parts.{is_whole}

module _ {A : Type 0} where
  -- a line that no line feed ends can't stand anywhere
  abbrev pub ended_step : TextPart → List ℕ × Bool → Option (TextPart × Drawn A)
  ended_step part piece = if piece.1 then step_at part piece.0 else None

  -- the line that can't stand there is told; else the others are read where the next line stands
  abbrev pub onward : ℕ → (TextPart × Drawn A → Result (List (Drawn A)) ℕ) → Option (TextPart × Drawn A)
      → Result (List (Drawn A)) ℕ
  onward number others None = Err number
  onward number others (Some step) = others step

  -- what is drawn for the lines, of which the first has this number, behind what was drawn before
  unfoldable pub walk : TextPart → List (Drawn A) → ℕ → List (List ℕ × Bool) → Result (List (Drawn A)) ℕ
  walk part before number [] = if is_whole part then Ok before else Err number
  walk part before number (piece ∷ others) =
      onward number (λ step. walk step.0 (before ++ step.1 ∷ []) (number + 1) others) (ended_step part piece)

  -- what is drawn for each line of the text, or the number of the first that can't stand there: 0 where the text has
  -- more than 16,777,216 bytes
  unfoldable pub graph_at : List ℕ → Result (List (Drawn A)) ℕ
  graph_at text = if nat_lt MOST_INPUT (length text) then Err 0 else walk parts.Start [] 1 (pieces text)

-- ---- what a reader answers

-- a bad line is told, and memory may run out
abbrev pub RefusesGraph : {X : Type 0} → Undrawn → Result X ℕ → Type 0
RefusesGraph undrawn.OutOfMemory read = Unit {0}
RefusesGraph (undrawn.BadLine bad) read = read ≡ Err bad
RefusesGraph undrawn.Io read = ⊥

-- the answer, seen by view, is what the text has
abbrev pub ReadsGraph : {X Y : Type 0} → (Y → X) → Result Y Undrawn → Result X ℕ → Type 0
ReadsGraph view (Ok answer) read = read ≡ Ok (view answer)
ReadsGraph view (Err refused) read = RefusesGraph refused read
