-- What is so of each of a list, as one is taken off its front or put to its end.
use Rattle.std.proofs.Common.{◌≡◌, ◌++◌, List, [], ◌∷◌, sym, subst}
use Rattle.std.specs.List.{All}
use Rattle.std.proofs.lemmas.List.Elements.{All-head, All-rest, All-push}

module _ {X : Type 0} (Is : X → Type 0) where
  pub first_is : (x : X) (before left : List X) → before ≡ x ∷ left → All Is before → Is x
  first_is x before left next all = All-head Is x left (subst (All Is) next all)

  pub others_are : (x : X) (before left : List X) → before ≡ x ∷ left → All Is before → All Is left
  others_are x before left next all = All-rest Is x left before next all

  pub more_are : (x : X) (before after : List X) → after ≡ before ++ x ∷ [] → Is x → All Is before → All Is after
  more_are x before after more so all = subst (All Is) (sym more) (All-push Is before x all so)
