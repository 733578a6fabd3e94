-- The first line of a text, up to its line feed or to the end.
use Rattle.std.proofs.Common.{◌≡◌, ◌∙◌, ℕ, suc, ◌+◌, ◌<◌, true, false, eqb, List, [], ◌∷◌, ◌++◌, length, get_or, take}
use Rattle.std.proofs.Common.{drop, sym, ap, subst, refl, add-one, arith}
use Rattle.std.proofs.lemmas.List.{take-append-drop}
use Rattle.std.proofs.Math.Seq.{drop-cons, take-suc}
use Rattle.brc_text.specs.Lines.{lacks, pieces}
use Rattle.brc_text.proofs.LineLaws.{lacks-append, pieces_line, pieces_last}

-- a line feed, and none before it
pub ended_line : (text : List ℕ) (at : ℕ) → at < length text → get_or text at 0 ≡ 10 → lacks 10 (take at text) ≡ true
    → pieces text ≡ (take at text, true) ∷ pieces (drop (at + 1) text)
ended_line text at within is front =
    let whole : text ≡ take at text ++ (10 ∷ drop (at + 1) text) =
    sym (take-append-drop at text)
    ∙ ap (λ (l : List ℕ). take at text ++ l) (drop-cons text at 0 within)
    ∙ ap (λ (b : ℕ). take at text ++ (b ∷ drop (suc at) text)) is
    ∙ ap (λ (n : ℕ). take at text ++ (10 ∷ drop n text)) (sym (add-one at)) in
    ap pieces whole ∙ pieces_line (take at text) (drop (at + 1) text) front

-- no line feed so far, and none here
pub goes_past : (text : List ℕ) (at : ℕ) → at < length text → eqb (get_or text at 0) 10 ≡ false
    → lacks 10 (take at text) ≡ true
    → lacks 10 (take (at + 1) text) ≡ true
goes_past text at within is_not front =
    let next : take (at + 1) text ≡ take at text ++ (get_or text at 0 ∷ []) = ap (λ (n : ℕ). take n text) (add-one at)
    ∙ take-suc text at 0 within in
    subst (λ (l : List ℕ). lacks 10 l ≡ true) (sym next)
    (lacks-append 10 (take at text) (get_or text at 0 ∷ []) front (rw is_not refl))

-- no line feed at all
pub open_line : (text : List ℕ) → 0 < length text → lacks 10 text ≡ true → pieces text ≡ (text, false) ∷ pieces []
unfolding pieces
open_line [] some none = absurd (omega arith)
open_line (byte ∷ text) some none = pieces_last byte text none
