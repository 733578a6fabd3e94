-- Cutting at the first mark.
use Rattle.std.proofs.Common.{◌≡◌, ◌∙◌, ℕ, suc, ◌+◌, ◌<◌, true, false, eqb, List, [], ◌∷◌, ◌++◌, length, get_or, take}
use Rattle.std.proofs.Common.{drop, Some, refl, sym, ap, subst, add-one}
use Rattle.std.proofs.lemmas.List.{take-append-drop}
use Rattle.std.proofs.Math.Seq.{drop-cons, take-suc}
use Rattle.brc_text.specs.Lines.{cut, lacks}
use Rattle.brc_text.proofs.LineLaws.{cut_until, lacks-append}

pub marked : (mark : ℕ) (bytes : List ℕ) (at : ℕ) → at < length bytes → get_or bytes at 0 ≡ mark
    → lacks mark (take at bytes) ≡ true
    → cut mark bytes ≡ (take at bytes, Some (drop (at + 1) bytes))
marked mark bytes at within is front =
    let behind : suc at ≡ at + 1 = sym (add-one at) in
    let whole : take at bytes ++ (mark ∷ drop (at + 1) bytes) ≡ bytes =
    ap (λ (b : ℕ). take at bytes ++ (b ∷ drop (at + 1) bytes)) (sym is)
    ∙ ap (λ (n : ℕ). take at bytes ++ (get_or bytes at 0 ∷ drop n bytes)) (sym behind)
    ∙ ap (λ (l : List ℕ). take at bytes ++ l) (sym (drop-cons bytes at 0 within)) ∙ take-append-drop at bytes in
    subst (λ (l : List ℕ). cut mark l ≡ (take at bytes, Some (drop (at + 1) bytes))) whole
    (cut_until mark (take at bytes) (drop (at + 1) bytes) front)

pub one_more : (mark : ℕ) (bytes : List ℕ) (at : ℕ) → at < length bytes → eqb (get_or bytes at 0) mark ≡ false
    → lacks mark (take at bytes) ≡ true
    → lacks mark (take (at + 1) bytes) ≡ true
one_more mark bytes at within is_not front =
    let next : take (at + 1) bytes ≡ take at bytes ++ (get_or bytes at 0 ∷ []) = ap (λ (n : ℕ). take n bytes)
    (add-one at) ∙ take-suc bytes at 0 within in
    subst (λ (l : List ℕ). lacks mark l ≡ true) (sym next)
    (lacks-append mark (take at bytes) (get_or bytes at 0 ∷ []) front (rw is_not refl))
