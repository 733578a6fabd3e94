-- The lines of a text, one after the other.
use Rattle.std.proofs.Common.{◌≡◌, ◌∙◌, ℕ, ◌<◌, Bool, true, false, List, [], ◌∷◌, length, map, Option, Some, None, refl}
use Rattle.std.proofs.Common.{ap, sym, ◌||◌, arith}
use Rattle.brc_text.specs.Lines.{cut, pieces}
use Rattle.brc_text.proofs.LineLaws.{pieces_ended, pieces_open, cut_shorter}
use Rattle.std.specs.List.{list_any}
use Rattle.brc_script.specs.Walks.{lines_of, opening, decided, or_later, is_closed, starts_section}

pub ended_line : (text line rest : List ℕ) → line ≡ (cut 10 text).0 → (cut 10 text).1 ≡ Some rest
    → lines_of text ≡ line ∷ lines_of rest
unfolding lines_of
ended_line text line rest is e =
    ap (λ (ps : List (List ℕ × Bool)). map (λ p. p.0) ps) (pieces_ended text rest e)
    ∙ ap (λ (l : List ℕ). l ∷ lines_of rest) (sym is)

pub open_line : (text : List ℕ) → 0 < length text → (cut 10 text).1 ≡ None → lines_of text ≡ text ∷ lines_of []
unfolding lines_of pieces
open_line text some e = ap (λ (ps : List (List ℕ × Bool)). map (λ p. p.0) ps) (pieces_open text some e)

pub line_shorter : (text rest : List ℕ) → (cut 10 text).1 ≡ Some rest → length rest < length text
line_shorter text rest e = cut_shorter 10 text rest e

pub no_lines : (text : List ℕ) → length text ≡ 0 → lines_of text ≡ []
unfolding lines_of pieces
no_lines [] none = refl
no_lines (byte ∷ text) none = absurd (omega arith)

pub closed_here : (rest line : List ℕ) (lines : List (List ℕ)) (closed : Bool) → lines_of rest ≡ line ∷ lines
    → decided (opening line) ≡ Some closed
    → is_closed (lines_of rest) ≡ closed
unfolding is_closed
closed_here rest line lines closed are here = ap is_closed are
    ∙ ap (λ (o : Option Bool). or_later o (is_closed lines)) here

pub closed_later : (rest line : List ℕ) (lines : List (List ℕ)) → lines_of rest ≡ line ∷ lines
    → decided (opening line) ≡ None
    → is_closed (lines_of rest) ≡ is_closed lines
unfolding is_closed
closed_later rest line lines are not_here = ap is_closed are
    ∙ ap (λ (o : Option Bool). or_later o (is_closed lines)) not_here

pub not_closed : (rest : List ℕ) → length rest ≡ 0 → is_closed (lines_of rest) ≡ false
unfolding is_closed
not_closed rest none = ap is_closed (no_lines rest none)

pub section_here : (rest line : List ℕ) (lines : List (List ℕ)) → lines_of rest ≡ line ∷ lines
    → starts_section line ≡ true
    → list_any starts_section (lines_of rest) ≡ true
section_here rest line lines are here = ap (list_any starts_section) are
    ∙ ap (λ (b : Bool). b || list_any starts_section lines) here

pub section_later : (rest line : List ℕ) (lines : List (List ℕ)) → lines_of rest ≡ line ∷ lines
    → starts_section line ≡ false
    → list_any starts_section (lines_of rest) ≡ list_any starts_section lines
section_later rest line lines are not_here = ap (list_any starts_section) are
    ∙ ap (λ (b : Bool). b || list_any starts_section lines) not_here

pub no_section : (rest : List ℕ) → length rest ≡ 0 → list_any starts_section (lines_of rest) ≡ false
no_section rest none = ap (list_any starts_section) (no_lines rest none)
