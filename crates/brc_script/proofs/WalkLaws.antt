-- One turn of the walk over lines, and how many sections there are.
use Rattle.std.proofs.Common.{◌≡◌, ◌∙◌, ℕ, ◌+◌, ◌<◌, ◌≤◌, ◌&&◌, not, true, false, ltb, List, [], ◌∷◌, length, Option}
use Rattle.std.proofs.Common.{Some, None, Result, Ok, Err, refl, ap, subst, length-append, arith}
use Rattle.std.specs.Prelude.{is_some}
use Rattle.std.proofs.lemmas.Bool.{and_parts, ltb-true, lt-ltb, le-ltb}
use Rattle.std.proofs.lemmas.Option.{cond_some}
use Rattle.brc_words.specs.declared.limits.TheConstants.{MOST_INPUT}
use Rattle.std.specs.List.{list_any}
use Rattle.brc_words.specs.declared.fault.Fault.{Fault}
use Rattle.brc_words.specs.declared.fault.Fault.TheVariants as faults
use Rattle.brc_text.proofs.KeywordLaws.{same_some}
use Rattle.brc_text.proofs.TokenLaws.{some_bind}
use Rattle.brc_script.specs.declared.row.ScriptRow.{ScriptRow}
use Rattle.brc_script.specs.declared.row.ScriptRow.TheVariants as rows
use Rattle.brc_script.specs.Instructions.{NumberedLine}
use Rattle.brc_script.specs.Rows.{row_at}
use Rattle.brc_script.specs.declared.limits.TheConstants.{MOST_SECTIONS}
use Rattle.brc_script.specs.declared.script.Piece.{Piece}
use Rattle.brc_script.specs.declared.script.Section.{Section}
use Rattle.brc_script.specs.declared.progress.Progress.{Progress}
use Rattle.brc_script.specs.Walks.{lines_of, starts_section, is_closed, sections_of, is_named, begin, open_repeat}
use Rattle.brc_script.specs.Walks.{close_by, close_repeat, add_by, add, taken, turn_at, onward, walk, closed_by}
use Rattle.brc_script.specs.Walks.{nothing, finished, script_at, RefusesScript, ReadsScript}
use Rattle.brc_script.proofs.LinesLaws.{no_lines}

module _ {A : Type 0} where
  pub bad_turn : (progress : Progress A) (number : ℕ) (rest line : List ℕ) (lines : List (List ℕ))
      → lines_of rest ≡ line ∷ lines
      → turn_at progress number line lines ≡ None → walk progress number (lines_of rest) ≡ Err number
  unfolding walk
  bad_turn progress number rest line lines are bad =
      ap (walk progress number) are ∙ ap (onward number (λ next. walk next (number + 1) lines)) bad

  pub good_turn : (progress next : Progress A) (number : ℕ) (rest line : List ℕ) (lines : List (List ℕ))
      → lines_of rest ≡ line ∷ lines
      → turn_at progress number line lines ≡ Some next → walk progress number (lines_of rest) ≡ walk next
      (number + 1) lines
  unfolding walk
  good_turn progress next number rest line lines are good =
      ap (walk progress number) are ∙ ap (onward number (λ next. walk next (number + 1) lines)) good

  pub no_turn : (progress : Progress A) (number : ℕ) (rest : List ℕ) → length rest ≡ 0
      → walk progress number (lines_of rest) ≡ Ok progress
  unfolding walk
  no_turn progress number rest none = ap (walk progress number) (no_lines rest none)

  pub some_sections : (done : List (Section A)) (name : Option (List ℕ)) (pieces : List (Piece A)) → is_some name ≡ true
      → 1 ≤ length (closed_by done name pieces)
  some_sections done None pieces h = absurd cc
  some_sections done (Some name) pieces h =
      omega (arith, length-append done (record { name = name; pieces = pieces } ∷ []))

  pub few_sections : (done : List (Section A)) (name : Option (List ℕ)) (pieces : List (Piece A))
      → length done < MOST_SECTIONS
      → length (closed_by done name pieces) ≤ MOST_SECTIONS
  few_sections done None pieces h = omega (arith, h)
  few_sections done (Some name) pieces h =
      omega (arith, h, length-append done (record { name = name; pieces = pieces } ∷ []))

  -- a turn leaves fewer than 63 sections behind it

  few_after_close : (progress next : Progress A) (times : Option ℕ) → close_by progress times ≡ Some next
      → length progress.done < MOST_SECTIONS
      → length next.done < MOST_SECTIONS
  few_after_close progress next None e few = absurd cc
  few_after_close progress next (Some times) e few = subst (λ (p : Progress A). length p.done < MOST_SECTIONS)
      (same_some e) few

  few_after_add : (progress next : Progress A) (times : Option ℕ) (line : NumberedLine A)
      → add_by progress times line ≡ Some next
      → length progress.done < MOST_SECTIONS → length next.done < MOST_SECTIONS
  few_after_add progress next None line e few =
      subst (λ (p : Progress A). length p.done < MOST_SECTIONS) (cond_some (is_some progress.name) _ next e).1 few
  few_after_add progress next (Some times) line e few = subst (λ (p : Progress A). length p.done < MOST_SECTIONS)
      (same_some e) few

  few_taken : (progress next : Progress A) (row : ScriptRow A) (later : List (List ℕ))
      → taken progress row later ≡ Some next
      → length progress.done < MOST_SECTIONS → length next.done < MOST_SECTIONS
  unfolding begin open_repeat close_repeat add
  few_taken progress next rows.Idle later e few = subst (λ (p : Progress A). length p.done < MOST_SECTIONS)
      (same_some e) few
  few_taken progress next (rows.Section name) later e few =
      let sections = sections_of progress in
      let parts = cond_some (not (is_some progress.times) &&
      (ltb (length sections) MOST_SECTIONS && not (is_named name sections))) _ next e in
      let room = and_parts (ltb (length sections) MOST_SECTIONS) (not (is_named name sections))
      (and_parts (not (is_some progress.times)) _ parts.0).1 in
      subst (λ (p : Progress A). length p.done < MOST_SECTIONS) parts.1
      (ltb-true (length sections) MOST_SECTIONS room.0)
  few_taken progress next (rows.Repeat times) later e few =
      subst (λ (p : Progress A). length p.done < MOST_SECTIONS)
      (cond_some (is_some progress.name && (not (is_some progress.times) && is_closed later)) _ next e).1 few
  few_taken progress next rows.End later e few = few_after_close progress next progress.times e few
  few_taken progress next (rows.Does line) later e few = few_after_add progress next progress.times line e few

  pub few_turned : (progress next : Progress A) (number : ℕ) (line : List ℕ) (later : List (List ℕ))
      → turn_at progress number line later ≡ Some next
      → length progress.done < MOST_SECTIONS → length next.done < MOST_SECTIONS
  unfolding turn_at
  few_turned progress next number line later e few =
      let row = some_bind (row_at number line) (λ row. taken progress row later) next e in
      few_taken progress next row.0 later row.2 few

  -- ---- the whole text

  pub long_text : (text : List ℕ) → MOST_INPUT < length text → script_at {A = A} text ≡ Err 0
  unfolding script_at
  long_text text long = rw (lt-ltb MOST_INPUT (length text) long) refl

  pub no_sections : (text : List ℕ) → length text ≤ MOST_INPUT → list_any starts_section (lines_of text) ≡ false
      → script_at {A = A} text ≡ Err 1
  unfolding script_at
  no_sections text short none = rw (le-ltb MOST_INPUT (length text) short, none) refl

  pub with_sections : (text : List ℕ) → length text ≤ MOST_INPUT → list_any starts_section (lines_of text) ≡ true
      → script_at {A = A} text ≡ finished (walk nothing 1 (lines_of text))
  unfolding script_at
  with_sections text short some = rw (le-ltb MOST_INPUT (length text) short, some) refl

  -- a fault of the walk is the fault of the script
  pub refused_below : (fault : Fault) (walked : Result (Progress A) ℕ) → RefusesScript fault walked
      → RefusesScript fault (finished walked)
  refused_below faults.OutOfMemory walked h = tt
  refused_below (faults.BadScript bad) walked h = ap finished h
  refused_below _ walked h = absurd h

-- an answer to one reading is an answer to an equal one
pub gives_same : {X : Type 0} (answer : Result X Fault) (a b : Result X ℕ) → a ≡ b → ReadsScript answer a
    → ReadsScript answer b
gives_same answer a b e h = subst (ReadsScript answer) e h

pub refused_same : {X : Type 0} (fault : Fault) (a b : Result X ℕ) → a ≡ b → RefusesScript fault a
    → RefusesScript fault b
refused_same fault a b e h = subst (RefusesScript fault) e h
