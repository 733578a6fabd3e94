-- What stands behind spaces, and where two words first differ.
use Rattle.std.proofs.Common.{◌≡◌, ◌∙◌, ℕ, zero, suc, ◌+◌, ◌-◌, ◌≤◌, Bool, true, false, List, [], ◌∷◌, drop}
use Rattle.std.proofs.Common.{Option, Some, None, refl, sym, ap, add-one, zero-add, cond, arith}
use Rattle.brc_text.specs.Lines.{cut}
use Rattle.brc_mistakes.specs.Words.{behind_one, behind}
use Rattle.brc_mistakes.specs.Nearness.{begin_alike, apart}

-- one space more
pub behind_more : (line rest : List ℕ) (spaces : ℕ) (next : Option (List ℕ)) → behind spaces line ≡ Some rest
    → (cut 32 rest).1 ≡ next
    → behind (spaces + 1) line ≡ next
unfolding behind
behind_more line rest spaces next is e = ap (λ (n : ℕ). behind n line) (add-one spaces) ∙ ap behind_one is ∙ e

behind_past : (line : List ℕ) (spaces more : ℕ) → behind spaces line ≡ None → behind (more + spaces) line ≡ None
unfolding behind
behind_past line spaces zero none = ap (λ (n : ℕ). behind n line) (zero-add spaces) ∙ none
behind_past line spaces (suc more) none =
    let e : suc more + spaces ≡ suc (more + spaces) = omega arith in
    ap (λ (n : ℕ). behind n line) e ∙ ap behind_one (behind_past line spaces more none)

-- nothing stands behind more spaces than there are
pub behind_none : (line : List ℕ) (spaces more : ℕ) → spaces ≤ more → behind spaces line ≡ None → behind more line ≡ None
behind_none line spaces more below none =
    let e : (more - spaces) + spaces ≡ more = omega arith in
    ap (λ (n : ℕ). behind n line) (sym e) ∙ behind_past line spaces (more - spaces) none

-- ---- two words

pub apart_alike : (word other : List ℕ) → begin_alike word other ≡ true
    → apart (drop 1 word) (drop 1 other) ≡ apart word other
unfolding begin_alike apart
apart_alike [] other alike = absurd cc
apart_alike (first ∷ word) [] alike = absurd cc
apart_alike (first ∷ word) (second ∷ other) alike =
    sym (ap (λ (b : Bool). cond b (apart word other) (first ∷ word, second ∷ other)) alike)

pub apart_further : (word other next after : List ℕ) → begin_alike word other ≡ true → next ≡ drop 1 word
    → after ≡ drop 1 other
    → apart next after ≡ apart word other
apart_further word other next after alike first second =
    ap (λ (l : List ℕ). apart l after) first ∙ ap (apart (drop 1 word)) second ∙ apart_alike word other alike

pub apart_here : (word other : List ℕ) → begin_alike word other ≡ false → apart word other ≡ (word, other)
unfolding begin_alike apart
apart_here [] other differ = refl
apart_here (first ∷ word) [] differ = refl
apart_here (first ∷ word) (second ∷ other) differ =
    ap (λ (b : Bool). cond b (apart word other) (first ∷ word, second ∷ other)) differ
