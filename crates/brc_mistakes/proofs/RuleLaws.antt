-- Lines that keep the rules.
use Rattle.std.proofs.Common.{◌≡◌, ◌∙◌, ℕ, ◌+◌, ◌<◌, ◌≤◌, ◌-◌, Bool, true, false, List, [], ◌∷◌, length, Option}
use Rattle.std.proofs.Common.{Some, None, refl, sym, ap, subst, eqb, cond, ◌&&◌, inl, inr, ◌⊎◌, arith}
use Rattle.std.specs.Prelude.{slice_get, IfNone}
use Rattle.std.specs.List.{list_all}
use Rattle.std.proofs.lemmas.Bool.{and_parts, cases_order}
use Rattle.std.proofs.lemmas.List.{drop_all, length-map}
use Rattle.std.proofs.lemmas.Option.{slice_get_past}
use Rattle.brc_text.specs.Lines.{cut, pieces, before_line}
use Rattle.brc_script.specs.Instructions.{is_printed}
use Rattle.brc_script.specs.Rows.{is_low, is_idle}
use Rattle.brc_script.specs.Walks.{lines_of}
use Rattle.brc_mistakes.specs.declared.line_opening.Opening.{Opening}
use Rattle.brc_mistakes.specs.declared.line_opening.Opening.TheVariants as openings
use Rattle.brc_mistakes.specs.declared.operand.Operand.{Operand}
use Rattle.brc_mistakes.specs.declared.operand.Operand.TheVariants as operands
use Rattle.brc_mistakes.specs.declared.mistake.Mistake.{Mistake}
use Rattle.brc_mistakes.specs.Openings.{operands_of, opening_at}
use Rattle.brc_mistakes.specs.Operands.{begins_with}
use Rattle.brc_mistakes.specs.Words.{opening_of, operand_at, register_by, register_of}
use Rattle.brc_mistakes.specs.Bytes.{is_comment}
use Rattle.brc_mistakes.specs.Places.{lines_from, spot_by, spot}
use Rattle.brc_mistakes.specs.Rules.{IsFitAt, Differ, KeepsWords, IsGoodLine, IsPlaced, KeepsRules}

-- ---- no form has more than three operands

few_operands : (opening : Opening) → length (operands_of opening) ≤ 3
few_operands openings.End = omega arith
few_operands _ = omega arith

none_past : (opening : Opening) (at : ℕ) → 3 ≤ at → slice_get (operands_of opening) at ≡ None
none_past opening at past = slice_get_past (operands_of opening) at (omega (arith, few_operands opening))

fit_past : (opening : Opening) (line : List ℕ) (at : ℕ) → 3 ≤ at → IsFitAt opening line at
fit_past opening line at past = λ operand word is stands. let none = none_past opening at past in absurd cc

below_or_past : (at : ℕ) → (at < 3) ⊎ (3 ≤ at)
below_or_past at =
    elim (cases_order at 3) as (λ _. (at < 3) ⊎ (3 ≤ at)) [
      | inl same ↦ inr (omega arith)
      | inr other ↦ elim other as (λ _. (at < 3) ⊎ (3 ≤ at)) [ inl below ↦ inl below | inr past ↦ inr (omega arith) ]
    ]

pub all_fit : (opening : Opening) (line : List ℕ) → ((at : ℕ) → at < 3 → IsFitAt opening line at)
    → (at : ℕ) → IsFitAt opening line at
all_fit opening line below at =
    elim (below_or_past at) as (λ _. IsFitAt opening line at) [
      | inl here ↦ below at here
      | inr past ↦ fit_past opening line at past
    ]

register_past : (opening : Opening) (line : List ℕ) (at : ℕ) → 3 ≤ at → register_of opening at line ≡ None
unfolding register_of
register_past opening line at past =
    ap (λ (o : Option Operand). register_by o (operand_at operands.Register (at + 1) line)) (none_past opening at past)

pub all_differ : (opening : Opening) (line : List ℕ)
    → ((first second : ℕ) → first < second → second < 3 → Differ opening line first second)
    → (first second : ℕ) → first < second → Differ opening line first second
all_differ opening line below first second before =
    elim (below_or_past second) as (λ _. Differ opening line first second) [
      | inl here ↦ below first second before here
      | inr past ↦ λ register at_first at_second. let none = register_past opening line second past in absurd cc
    ]

-- ---- lines that say nothing

pub idle_empty : (line : List ℕ) → length line ≡ 0 → is_idle line ≡ true
unfolding is_idle
idle_empty [] none = refl
idle_empty (first ∷ bytes) none = absurd (omega arith)

pub idle_comment : (line : List ℕ) → is_comment line ≡ true → list_all is_low line ≡ true → is_idle line ≡ true
unfolding is_idle begins_with
idle_comment [] comment low = absurd cc
idle_comment (first ∷ bytes) comment low =
    ap (λ (b : Bool). b && list_all is_low bytes) comment ∙ (and_parts (is_low first) (list_all is_low bytes) low).1

-- ---- how many lines there are

before_few : (byte : ℕ) (lines : List (List ℕ × Bool)) → length (before_line byte lines) ≤ length lines + 1
before_few byte [] = omega arith
before_few byte (line ∷ lines) = omega arith

few_by_end : (ends : Bool) (byte : ℕ) (bytes : List ℕ) (lines : List (List ℕ × Bool)) → length lines ≤ length bytes
    → length (cond ends (([], true) ∷ lines) (before_line byte lines)) ≤ length (byte ∷ bytes)
few_by_end true byte bytes lines few = omega arith
few_by_end false byte bytes lines few = omega (arith, before_few byte lines)

pieces_few : (text : List ℕ) → length (pieces text) ≤ length text
unfolding pieces
pieces_few [] = omega arith
pieces_few (byte ∷ bytes) = few_by_end (eqb byte 10) byte bytes (pieces bytes) (pieces_few bytes)

lines_few : (text : List ℕ) → length (lines_of text) ≤ length text
unfolding lines_of
lines_few text = omega (arith, length-map (pieces text) (λ line. line.0), pieces_few text)

pub none_from : (text : List ℕ) (number : ℕ) → length text < number → lines_from number text ≡ []
none_from text number past = drop_all (number - 1) (lines_of text) (omega (arith, lines_few text))

-- ---- where a line stands

nothing_opens : opening_of [] ≡ None
unfolding opening_of opening_at cut
nothing_opens = refl

-- no line stands there
kept_nowhere : (text : List ℕ) (number : ℕ) → KeepsRules (spot_by text number [])
kept_nowhere text number = record {
  line = record {
    printed = λ says. let idle = idle_empty [] refl in absurd cc;
    words = λ says. let idle = idle_empty [] refl in absurd cc;
  };
  place = record {
    placed = λ opening begins. let none = nothing_opens in absurd cc;
    closed = λ opening begins. let none = nothing_opens in absurd cc;
  };
}

kept_at : (text : List ℕ) (number : ℕ) (lines : List (List ℕ)) → lines_from number text ≡ lines
    → KeepsRules (spot_by text number lines)
    → KeepsRules (spot text number)
kept_at text number lines are kept = subst (λ (l : List (List ℕ)). KeepsRules (spot_by text number l)) (sym are) kept

pub kept_past : (text : List ℕ) (number : ℕ) → lines_from number text ≡ [] → KeepsRules (spot text number)
kept_past text number none = kept_at text number [] none (kept_nowhere text number)

pub kept_there : (told : Option Mistake) (text line : List ℕ) (number : ℕ) (below : List (List ℕ))
    → lines_from number text ≡ line ∷ below → IsGoodLine line
    → IfNone told (IsPlaced (spot_by text number (line ∷ below)))
    → IfNone told (KeepsRules (spot text number))
kept_there None text line number below are good placed =
    kept_at text number (line ∷ below) are (record { line = good; place = placed })
kept_there (Some mistake) text line number below are good placed = tt

-- ---- a line by itself

pub good_empty : (line : List ℕ) → is_idle line ≡ true → IsGoodLine line
good_empty line idle = record { printed = λ says. absurd cc; words = λ says. absurd cc }

pub good_comment : (told : Option Mistake) (line : List ℕ) → IfNone told (is_idle line ≡ true)
    → IfNone told (IsGoodLine line)
good_comment None line idle = good_empty line idle
good_comment (Some mistake) line idle = tt

pub good_line : (told : Option Mistake) (line : List ℕ) → list_all is_printed line ≡ true → IfNone told (KeepsWords line)
    → IfNone told (IsGoodLine line)
good_line None line printed words = record { printed = λ says. printed; words = λ says. words }
good_line (Some mistake) line printed words = tt
