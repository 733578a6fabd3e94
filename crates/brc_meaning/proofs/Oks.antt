-- What holds of an answer where there is one.
use Rattle.std.proofs.Common.{Bool, true, false, cond, ℕ, zero, suc, List, [], ◌∷◌, Option, Some, None, Result, Ok, Err}
use Rattle.std.proofs.Common.{IfOk, IfSome, slice_get}
use Rattle.std.specs.List.{All}
use Rattle.std.proofs.lemmas.List.Elements.{All-head, All-tail}
use Rattle.brc_words.specs.declared.fault.Fault.{Fault}
use Rattle.brc_plain.specs.Outcomes.{or_fault, leaving}
use Rattle.brc_meaning.specs.Outcomes.{◌>>=◌}

module _ {X Y E : Type 0} where
  pub ok_then : (r : Result X E) (f : X → Result Y E) (P : X → Type 0) (Q : Y → Type 0)
      → IfOk r P → ((x : X) → P x → IfOk (f x) Q) → IfOk (r >>= f) Q
  ok_then (Ok x) f P Q h later = later x h
  ok_then (Err e) f P Q h later = tt

module _ {X E : Type 0} where
  pub ok_if : (b : Bool) (x : X) (e : E) (P : X → Type 0) → P x → IfOk (cond b (Ok x) (Err e)) P
  ok_if true x e P h = h
  ok_if false x e P h = tt

module _ {X : Type 0} where
  pub ok_found : (o : Option X) (fault : Fault) (P : X → Type 0) → IfSome o P → IfOk (or_fault fault o) P
  ok_found (Some x) fault P h = h
  ok_found None fault P h = tt

  pub some_at : (xs : List X) (i : ℕ) (P : X → Type 0) → All P xs → IfSome (slice_get xs i) P
  some_at [] i P h = tt
  some_at (x ∷ xs) zero P h = All-head P x xs h
  some_at (x ∷ xs) (suc i) P h = some_at xs i P (All-tail P x xs h)

  pub some_if : (b : Bool) (x y : Option X) (P : X → Type 0) → IfSome x P → IfSome y P → IfSome (cond b x y) P
  some_if true x y P h k = h
  some_if false x y P h k = k

module _ {R C : Type 0} where
  pub ok_leaving : (left : C) (r : Result R Fault) (P : R → Type 0) (Q : C → Type 0)
      → IfOk r P → Q left → IfOk (leaving left r) (λ done. P done.0 × Q done.1)
  ok_leaving left (Ok x) P Q h q = (h, q)
  ok_leaving left (Err e) P Q h q = tt
