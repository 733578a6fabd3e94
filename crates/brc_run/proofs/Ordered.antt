-- What stands in order with a script's sections, as it is built up one after the other.
use Rattle.std.proofs.Common.{◌≡◌, ◌+◌, ◌<◌, ◌≤◌, ℕ, suc, List, [], ◌∷◌, ◌++◌, length, get_or, drop, refl, sym, subst}
use Rattle.std.proofs.Common.{ap, arith, ◌∙◌}
use Rattle.std.proofs.Math.Seq.{drop-cons}
use Rattle.std.specs.List.{All}
use Rattle.std.proofs.lemmas.List.{append_assoc, append-nil, drop_all}
use Rattle.std.proofs.lemmas.List.Elements.{All-cons, All-nil}
use Rattle.brc_run.specs.Runs.{InOrder}

no_others : {D : Type 0} (left : List D) → length left ≡ 0 → left ≡ []
no_others [] none = refl
no_others (one ∷ left) none = absurd (omega (arith, none))

module _ {X Y Z : Type 0} where
  -- each that is still to be dealt with is in order with what is left of all; and what comes of them, behind what came
  -- of those before, will be in order with all
  pub record Underway (IsSo : ℕ → X → Y → Type 0) (Gives : ℕ → X → Z → Type 0) (all : List X) (left : List Y)
      (done : List Z) : Type 0 where
    pub number : ℕ
    pub rest : List X
    pub ahead : InOrder IsSo number rest left
    pub behind : (later : List Z) → InOrder Gives number rest later → InOrder Gives 1 all (done ++ later)

  pub begins : (IsSo : ℕ → X → Y → Type 0) (Gives : ℕ → X → Z → Type 0) (all : List X) (left : List Y)
      → InOrder IsSo 1 all left
      → Underway IsSo Gives all left []
  begins IsSo Gives all left ahead = record { number = 1; rest = all; ahead = ahead; behind = λ later so. so }

  goes_by : (IsSo : ℕ → X → Y → Type 0) (Gives : ℕ → X → Z → Type 0) (all : List X) (y : Y) (left : List Y)
      (done : List Z) (z : Z) (number : ℕ) (rest : List X)
      → InOrder IsSo number rest (y ∷ left)
      → ((later : List Z) → InOrder Gives number rest later → InOrder Gives 1 all (done ++ later))
      → ((n : ℕ) (x : X) → IsSo n x y → Gives n x z) → Underway IsSo Gives all left (done ++ z ∷ [])
  goes_by IsSo Gives all y left done z number [] ahead behind step = absurd ahead
  goes_by IsSo Gives all y left done z number (x ∷ rest) ahead behind step = record {
    number = suc number;
    rest = rest;
    ahead = ahead.1;
    behind = λ later more. subst (InOrder Gives 1 all) (sym (append_assoc done (z ∷ []) later))
        (behind (z ∷ later) (step number x ahead.0, more));
  }

  -- one more is dealt with
  pub goes_on : (IsSo : ℕ → X → Y → Type 0) (Gives : ℕ → X → Z → Type 0) (all : List X) (y : Y) (before left : List Y)
      (done new : List Z) (z : Z)
      → before ≡ y ∷ left → new ≡ done ++ z ∷ [] → Underway IsSo Gives all before done
      → ((n : ℕ) (x : X) → IsSo n x y → Gives n x z)
      → Underway IsSo Gives all left new
  goes_on IsSo Gives all y before left done new z next more under step =
      subst (Underway IsSo Gives all left) (sym more)
      (goes_by IsSo Gives all y left done z under.number under.rest
      (subst (InOrder IsSo under.number under.rest) next under.ahead) under.behind step)

  all_by : (IsSo : ℕ → X → Y → Type 0) (Gives : ℕ → X → Z → Type 0) (all : List X) (done : List Z) (number : ℕ)
      (rest : List X)
      → InOrder IsSo number rest []
      → ((later : List Z) → InOrder Gives number rest later → InOrder Gives 1 all (done ++ later))
      → InOrder Gives 1 all done
  all_by IsSo Gives all done number [] ahead behind = subst (InOrder Gives 1 all) (append-nil done) (behind [] (tt {0}))
  all_by IsSo Gives all done number (x ∷ rest) ahead behind = absurd ahead

  -- all are
  pub all_done : (IsSo : ℕ → X → Y → Type 0) (Gives : ℕ → X → Z → Type 0) (all : List X) (left : List Y) (done : List Z)
      → length left ≡ 0
      → Underway IsSo Gives all left done → InOrder Gives 1 all done
  all_done IsSo Gives all left done none under =
      all_by IsSo Gives all done under.number under.rest
      (subst (InOrder IsSo under.number under.rest) (no_others left none) under.ahead) under.behind

module _ {X Y : Type 0} where
  -- what is so of each, wherever it stands
  pub each_is : (IsSo : ℕ → X → Y → Type 0) (Q : Y → Type 0) → ((n : ℕ) (x : X) (y : Y) → IsSo n x y → Q y)
      → (n : ℕ) (xs : List X) (ys : List Y)
      → InOrder IsSo n xs ys → All Q ys
  each_is IsSo Q each n [] [] so = All-nil Q
  each_is IsSo Q each n [] (y ∷ ys) so = absurd so
  each_is IsSo Q each n (x ∷ xs) [] so = absurd so
  each_is IsSo Q each n (x ∷ xs) (y ∷ ys) so = All-cons Q y ys (each n x y so.0)
      (each_is IsSo Q each (suc n) xs ys so.1)

  pub as_many : (IsSo : ℕ → X → Y → Type 0) (n : ℕ) (xs : List X) (ys : List Y) → InOrder IsSo n xs ys
      → length xs ≡ length ys
  as_many IsSo n [] [] so = refl
  as_many IsSo n [] (y ∷ ys) so = absurd so
  as_many IsSo n (x ∷ xs) [] so = absurd so
  as_many IsSo n (x ∷ xs) (y ∷ ys) so = ap suc (as_many IsSo (suc n) xs ys so.1)

  -- those before this place are dealt with: what comes of the later ones, behind what came of them, will be in order
  -- with all
  pub record Along (IsSo : ℕ → X → Y → Type 0) (all : List X) (at : ℕ) (done : List Y) : Type 0 where
    pub behind : (later : List Y) → InOrder IsSo (at + 1) (drop at all) later → InOrder IsSo 1 all (done ++ later)

  pub none_yet : (IsSo : ℕ → X → Y → Type 0) (all : List X) (done : List Y) → done ≡ [] → Along IsSo all 0 done
  none_yet IsSo all done none = record {
    behind = λ later so. subst (λ ys. InOrder IsSo 1 all (ys ++ later))
        (sym none) so;
  }

  pub one_more : (IsSo : ℕ → X → Y → Type 0) (all : List X) (at number : ℕ) (d x : X) (y : Y) (done new : List Y)
      → Along IsSo all at done → at < length all → x ≡ get_or all at d → number ≡ at + 1 → IsSo number x y
      → new ≡ done ++ y ∷ []
      → Along IsSo all (at + 1) new
  one_more IsSo all at number d x y done new along within is next so more = record {
    behind = λ later right.
        let n : suc at ≡ at + 1 = omega arith in
        let rest : drop at all ≡ x ∷ drop (at + 1) all =
        drop-cons all at d within ∙ ap (λ v. v ∷ drop (suc at) all) (sym is) ∙ ap (λ m. x ∷ drop m all) n in
        let m : suc (at + 1) ≡ at + 1 + 1 = omega arith in
        subst (λ ys. InOrder IsSo 1 all (ys ++ later)) (sym more)
        (subst (InOrder IsSo 1 all) (sym (append_assoc done (y ∷ []) later))
        (along.behind (y ∷ later)
        (subst (λ xs. InOrder IsSo (at + 1) xs (y ∷ later)) (sym rest)
        (subst (λ k. IsSo k x y) next so, subst (λ k. InOrder IsSo k (drop (at + 1) all) later) (sym m) right))));
  }

  pub all_along : (IsSo : ℕ → X → Y → Type 0) (all : List X) (at : ℕ) (done : List Y) → Along IsSo all at done
      → length all ≤ at
      → InOrder IsSo 1 all done
  all_along IsSo all at done along past =
      subst (InOrder IsSo 1 all) (append-nil done)
      (along.behind [] (subst (λ xs. InOrder IsSo (at + 1) xs []) (sym (drop_all at all past)) (tt {0})))
