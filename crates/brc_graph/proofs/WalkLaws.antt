-- One turn of the walk over lines.
use Rattle.std.proofs.Common.{◌≡◌, ◌∙◌, ℕ, ◌+◌, ◌<◌, ◌≤◌, true, false, List, [], ◌∷◌, ◌++◌, length, Some}
use Rattle.std.proofs.Common.{None, Result, Ok, Err, refl, ap, sym, subst, arith}
use Rattle.std.proofs.lemmas.Bool.{lt-ltb, le-ltb}
use Rattle.brc_words.specs.declared.limits.TheConstants.{MOST_INPUT}
use Rattle.brc_text.specs.Lines.{cut, pieces}
use Rattle.brc_text.proofs.LineLaws.{pieces_ended, pieces_open, cut_shorter}
use Rattle.brc_graph.specs.declared.drawn.Drawn.{Drawn}
use Rattle.brc_graph.specs.declared.part.TextPart.{TextPart}
use Rattle.brc_graph.specs.declared.part.TextPart.TheVariants as parts
use Rattle.brc_graph.specs.declared.undrawn.Undrawn.{Undrawn}
use Rattle.brc_graph.specs.Lines.{step_at}
use Rattle.brc_graph.specs.Parts.{is_whole}
use Rattle.brc_graph.specs.Reading.{onward, walk, graph_at, RefusesGraph}

pub no_piece : (text : List ℕ) → length text ≡ 0 → pieces text ≡ []
unfolding pieces
no_piece [] none = refl
no_piece (byte ∷ text) none = absurd (omega arith)

pub line_shorter : (text rest : List ℕ) → (cut 10 text).1 ≡ Some rest → length rest < length text
line_shorter text rest e = cut_shorter 10 text rest e

module _ {A : Type 0} where
  -- no line feed ends the line
  pub open_turn : (part : TextPart) (before : List (Drawn A)) (number : ℕ) (text : List ℕ) → 0 < length text
      → (cut 10 text).1 ≡ None
      → walk part before number (pieces text) ≡ Err number
  unfolding walk
  open_turn part before number text some open' = ap (walk part before number) (pieces_open text some open')

  pub bad_turn : (part : TextPart) (before : List (Drawn A)) (number : ℕ) (text line rest : List ℕ)
      → line ≡ (cut 10 text).0 → (cut 10 text).1 ≡ Some rest → step_at {A = A} part line ≡ None
      → walk part before number (pieces text) ≡ Err number
  unfolding walk
  bad_turn part before number text line rest is ended bad =
      ap (walk part before number) (pieces_ended text rest ended)
      ∙ ap (onward number (λ step. walk step.0 (before ++ step.1 ∷ []) (number + 1) (pieces rest)))
      (ap (step_at part) (sym is) ∙ bad)

  pub good_turn : (part next : TextPart) (before : List (Drawn A)) (shown : Drawn A) (number : ℕ)
      (text line rest : List ℕ)
      → line ≡ (cut 10 text).0 → (cut 10 text).1 ≡ Some rest → step_at part line ≡ Some (next, shown)
      → walk part before number (pieces text) ≡ walk next (before ++ shown ∷ []) (number + 1) (pieces rest)
  unfolding walk
  good_turn part next before shown number text line rest is ended good =
      ap (walk part before number) (pieces_ended text rest ended)
      ∙ ap (onward number (λ step. walk step.0 (before ++ step.1 ∷ []) (number + 1) (pieces rest)))
      (ap (step_at part) (sym is) ∙ good)

  -- the text ends here, and may
  pub whole_turn : (part : TextPart) (before : List (Drawn A)) (number : ℕ) (text : List ℕ) → length text ≡ 0
      → is_whole part ≡ true
      → walk part before number (pieces text) ≡ Ok before
  unfolding walk
  whole_turn part before number text none whole = ap (walk part before number) (no_piece text none) ∙ rw whole refl

  -- it ends here, and may not
  pub early_turn : (part : TextPart) (before : List (Drawn A)) (number : ℕ) (text : List ℕ) → length text ≡ 0
      → is_whole part ≡ false
      → walk part before number (pieces text) ≡ Err number
  unfolding walk
  early_turn part before number text none early = ap (walk part before number) (no_piece text none) ∙ rw early refl

  -- ---- the whole text

  pub long_text : (text : List ℕ) → MOST_INPUT < length text → graph_at {A = A} text ≡ Err 0
  unfolding graph_at
  long_text text long = rw (lt-ltb MOST_INPUT (length text) long) refl

  pub short_text : (text : List ℕ) → length text ≤ MOST_INPUT
      → graph_at {A = A} text ≡ walk parts.Start [] 1 (pieces text)
  unfolding graph_at
  short_text text short = rw (le-ltb MOST_INPUT (length text) short) refl

pub refused_same : {X : Type 0} (refused : Undrawn) (a b : Result X ℕ) → a ≡ b → RefusesGraph refused a
    → RefusesGraph refused b
refused_same refused a b e h = subst (RefusesGraph refused) e h
