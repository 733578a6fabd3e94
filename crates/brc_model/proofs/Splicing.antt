-- One element of a list gives way to others, or to none at all.
use Rattle.std.proofs.Common.{◌≡◌, ℕ, ◌+◌, ◌<◌, suc, zero, Bool, false, cond, Option, Some, None, List, [], ◌∷◌, ◌++◌}
use Rattle.std.proofs.Common.{length, take, drop, refl, ap, slice_set, slice_get, arith}
use Rattle.std.specs.Prelude.{◌||◌, remove}
use Rattle.std.specs.List.{list_any, find, filter_map, cons_option}
use Rattle.std.proofs.lemmas.List.Folds.{list_any-append}
use Rattle.std.proofs.lemmas.List.Elements.{filter_map-append}
use Rattle.brc_model.proofs.Filtering.{or-swap, find-append_right}

abbrev pub splice : {X : Type 0} → List X → ℕ → List X → List X
splice xs i ys = take i xs ++ (ys ++ drop (suc i) xs)

pub list_any-splice : {X : Type 0} (p : X → Bool) (xs : List X) (i : ℕ) (ys : List X) (v : X) → slice_get xs i ≡ Some v
    → p v ≡ false
    → list_any p (splice xs i ys) ≡ (list_any p ys || list_any p xs)
list_any-splice p [] i ys v there fails = cc
list_any-splice p (x ∷ xs) zero ys v there fails =
    let e : x ≡ v = cc in rw (e, fails) (list_any-append p ys xs)
list_any-splice p (x ∷ xs) (suc i) ys v there fails =
    rw (list_any-splice p xs i ys v there fails) (or-swap (p x) (list_any p ys) (list_any p xs))

pub find-splice : {X : Type 0} (p : X → Bool) (xs : List X) (i : ℕ) (ys : List X) (v : X) → slice_get xs i ≡ Some v
    → p v ≡ false → list_any p ys ≡ false
    → find p (splice xs i ys) ≡ find p xs
find-splice p [] i ys v there fails none = cc
find-splice p (x ∷ xs) zero ys v there fails none =
    let e : x ≡ v = cc in rw (e, fails) (find-append_right p ys xs none)
find-splice p (x ∷ xs) (suc i) ys v there fails none = ap (cond (p x) (Some x))
    (find-splice p xs i ys v there fails none)

pub filter_map-splice_other : {X Y : Type 0} (h : X → Option Y) (xs : List X) (i : ℕ) (ys : List X) (v : X)
    → slice_get xs i ≡ Some v → h v ≡ None → filter_map h ys ≡ []
    → filter_map h (splice xs i ys) ≡ filter_map h xs
filter_map-splice_other h [] i ys v there fails none = cc
filter_map-splice_other h (x ∷ xs) zero ys v there fails none =
    let e : x ≡ v = cc in rw (e, fails, filter_map-append h ys xs, none) refl
filter_map-splice_other h (x ∷ xs) (suc i) ys v there fails none = ap (cons_option (h x))
    (filter_map-splice_other h xs i ys v there fails none)

pub filter_map-splice : {X Y : Type 0} (h : X → Option Y) (xs : List X) (i : ℕ) (ys : List X) (v : X) (o : Y)
    → slice_get xs i ≡ Some v → h v ≡ Some o
    → filter_map h (splice xs i ys) ≡ splice (filter_map h xs) (length (filter_map h (take i xs))) (filter_map h ys)
filter_map-splice h [] i ys v o there some = cc
filter_map-splice h (x ∷ xs) zero ys v o there some =
    let e : x ≡ v = cc in rw (e, some) (filter_map-append h ys xs)
filter_map-splice h (x ∷ xs) (suc i) ys v o there some =
    elim (h x) as (λ w. cons_option w (filter_map h (splice xs i ys)) ≡ splice (cons_option w (filter_map h xs))
    (length (cons_option w (filter_map h (take i xs)))) (filter_map h ys)) [
      | None ↦ filter_map-splice h xs i ys v o there some
      | Some y ↦ ap (λ l. y ∷ l) (filter_map-splice h xs i ys v o there some)
    ]

pub slice_set-splice : {X : Type 0} (xs : List X) (i : ℕ) (y : X) → i < length xs
    → slice_set xs i y ≡ splice xs i (y ∷ [])
slice_set-splice [] i y h = absurd (omega arith)
slice_set-splice (x ∷ xs) zero y h = refl
slice_set-splice (x ∷ xs) (suc i) y h = let k : i < length xs = omega arith in
    ap (λ l. x ∷ l) (slice_set-splice xs i y k)

-- without its last element a list ends before it
pub take_last : {X : Type 0} (xs : List X) (i : ℕ) → length xs ≡ i + 1 → remove xs i ≡ take i xs
take_last [] i h = absurd (omega arith)
take_last (x ∷ []) zero h = refl
take_last (x ∷ (y ∷ xs)) zero h = absurd (omega arith)
take_last (x ∷ xs) (suc i) h = let k : length xs ≡ i + 1 = omega arith in ap (λ l. x ∷ l) (take_last xs i k)
