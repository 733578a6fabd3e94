-- The lines above one, and those behind it.
use Rattle.std.proofs.Common.{◌≡◌, ◌∙◌, ℕ, zero, suc, ◌+◌, List, [], ◌∷◌, length, take, drop}
use Rattle.std.proofs.Common.{Option, Some, None, refl, sym, ap, subst}
use Rattle.std.proofs.lemmas.List.{drop-drop}
use Rattle.brc_text.specs.Tokens.{or_else}
use Rattle.brc_script.specs.Walks.{lines_of}
use Rattle.brc_script.proofs.LinesLaws.{no_lines}
use Rattle.brc_mistakes.specs.declared.line_opening.Opening.{Opening}
use Rattle.brc_mistakes.specs.declared.mistake.Mistake.{Mistake}
use Rattle.brc_mistakes.specs.Places.{turn_of, last_turn, first_turn, numbered, lines_from, spot_by}
use Rattle.brc_mistakes.specs.Mistakes.{IsMistakeAt, IsMistake, IsOfLine}

-- one line further
pub one_line_on : (text rest behind : List ℕ) (number : ℕ) → lines_of rest ≡ drop number (lines_of text)
    → lines_of behind ≡ drop 1 (lines_of rest)
    → lines_of behind ≡ drop (number + 1) (lines_of text)
one_line_on text rest behind number so_far next =
    next ∙ ap (λ (lines : List (List ℕ)). drop 1 lines) so_far ∙ drop-drop 1 number (lines_of text)

pub none_behind : (text : List ℕ) → length text ≡ 0 → lines_of text ≡ drop 1 (lines_of text)
none_behind text none = no_lines text none ∙ sym (ap (λ (lines : List (List ℕ)). drop 1 lines) (no_lines text none))

take_none : (count : ℕ) → take {A = List ℕ} count [] ≡ []
take_none zero = refl
take_none (suc count) = refl

pub none_of_none : (text : List ℕ) (count : ℕ) → length text ≡ 0 → take count (lines_of text) ≡ []
none_of_none text count none =
    ap (λ (lines : List (List ℕ)). take count lines) (no_lines text none) ∙ take_none count

-- ---- what was said last, and what is said first

or_else_or_else : {X : Type 0} (first second third : Option X)
    → or_else (or_else first second) third ≡ or_else first (or_else second third)
or_else_or_else None second third = refl
or_else_or_else (Some x) second third = refl

pub last_goes_on : (lines more : List (List ℕ)) (line : List ℕ) (last : Option Opening) → lines ≡ line ∷ more
    → or_else (last_turn more) (or_else (turn_of line) last) ≡ or_else (last_turn lines) last
unfolding last_turn
last_goes_on lines more line last are =
    sym (ap (λ (l : List (List ℕ)). or_else (last_turn l) last) are
    ∙ or_else_or_else (last_turn more) (turn_of line) last)

pub last_ends : (lines : List (List ℕ)) (last : Option Opening) → lines ≡ [] → or_else (last_turn lines) last ≡ last
unfolding last_turn
last_ends lines last none = ap (λ (l : List (List ℕ)). or_else (last_turn l) last) none

pub first_here : (number : ℕ) (lines more : List (List ℕ)) (line : List ℕ) (turn : Opening) → lines ≡ line ∷ more
    → turn_of line ≡ Some turn
    → first_turn number lines ≡ Some (number, turn)
unfolding first_turn
first_here number lines more line turn are is =
    ap (first_turn number) are
    ∙ ap (λ (o : Option Opening). or_else (numbered number o) (first_turn (number + 1) more)) is

pub first_later : (number : ℕ) (lines more : List (List ℕ)) (line : List ℕ) → lines ≡ line ∷ more
    → turn_of line ≡ None
    → first_turn number lines ≡ first_turn (number + 1) more
unfolding first_turn
first_later number lines more line are none =
    ap (first_turn number) are
    ∙ ap (λ (o : Option Opening). or_else (numbered number o) (first_turn (number + 1) more)) none

pub first_never : (number : ℕ) (text : List ℕ) → length text ≡ 0 → first_turn number (lines_of text) ≡ None
unfolding first_turn
first_never number text none = ap (first_turn number) (no_lines text none)

-- ---- a line and where it stands

pub of_line : (text line : List ℕ) (number : ℕ) (lines : List (List ℕ)) (mistake : Mistake) → IsOfLine line mistake
    → IsMistakeAt (spot_by text number (line ∷ lines)) mistake
of_line text line number lines mistake is = is (spot_by text number (line ∷ lines))

pub at_number : (text : List ℕ) (number : ℕ) (lines : List (List ℕ)) (mistake : Mistake)
    → lines_from number text ≡ lines
    → IsMistakeAt (spot_by text number lines) mistake
    → IsMistake text number mistake
at_number text number lines mistake are is =
    subst (λ (l : List (List ℕ)). IsMistakeAt (spot_by text number l) mistake) (sym are) is
