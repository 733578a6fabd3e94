-- What a search, a test of any or a selection makes of a list that was filtered, appended to or mapped.
use Rattle.std.proofs.Common.{◌≡◌, ◌∙◌, Bool, true, false, cond, Option, Some, None, List, [], ◌∷◌, ◌++◌, refl, ap, sym}
use Rattle.std.proofs.Common.{map}
use Rattle.std.specs.Prelude.{◌&&◌, ◌||◌}
use Rattle.std.specs.List.{list_any, find, filter, filter_map, cons_option}
use Rattle.std.proofs.lemmas.Bool.{or_parts}

pub and-false : (b : Bool) → (b && false) ≡ false
and-false true = refl
and-false false = refl

pub or-false : (b : Bool) → (b || false) ≡ b
or-false true = refl
or-false false = refl

pub or-swap : (a b c : Bool) → (a || (b || c)) ≡ (b || (a || c))
or-swap true true c = refl
or-swap true false c = refl
or-swap false true c = refl
or-swap false false c = refl

pub or-comm : (a b : Bool) → (a || b) ≡ (b || a)
or-comm true true = refl
or-comm true false = refl
or-comm false true = refl
or-comm false false = refl

-- where the filter gives one answer at all that pass the test
pub list_any-filter : {X : Type 0} (p q : X → Bool) (b : Bool) → ((x : X) → p x ≡ true → q x ≡ b) → (xs : List X)
    → list_any p (filter q xs) ≡ (b && list_any p xs)
list_any-filter p q b h [] = sym (and-false b)
list_any-filter p q b h (x ∷ xs) =
    elim (p x) as (λ u. p x ≡ u → list_any p (cond (q x) (x ∷ filter q xs) (filter q xs))
    ≡ (b && (u || list_any p xs))) [
      | true ↦ (λ e. rw (h x e)
          (elim b as (λ v. (b ≡ v) → list_any p (cond v (x ∷ filter q xs) (filter q xs)) ≡ (v && true)) [
            | true ↦ (λ k. rw e refl)
            | false ↦ (λ k. list_any-filter p q b h xs ∙ rw k refl)
          ] refl))
      | false ↦ (λ e. elim (q x) as (λ t. list_any p (cond t (x ∷ filter q xs) (filter q xs)) ≡ (b && list_any p xs)) [
        | true ↦ rw e (list_any-filter p q b h xs)
        | false ↦ list_any-filter p q b h xs
      ])
    ] refl

pub find-filter : {X : Type 0} (p q : X → Bool) → ((x : X) → p x ≡ true → q x ≡ true) → (xs : List X)
    → find p (filter q xs) ≡ find p xs
find-filter p q h [] = refl
find-filter p q h (x ∷ xs) =
    elim (p x) as (λ u. p x ≡ u → find p (cond (q x) (x ∷ filter q xs) (filter q xs)) ≡ cond u (Some x) (find p xs)) [
      | true ↦ (λ e. rw (h x e, e) refl)
      | false ↦ (λ e. elim (q x) as (λ t. find p (cond t (x ∷ filter q xs) (filter q xs)) ≡ find p xs) [
        | true ↦ rw e (find-filter p q h xs)
        | false ↦ find-filter p q h xs
      ])
    ] refl

-- where nothing that the filter drops is selected
pub filter_map-filter : {X Y : Type 0} (h : X → Option Y) (q : X → Bool) → ((x : X) → q x ≡ false → h x ≡ None)
    → (xs : List X)
    → filter_map h (filter q xs) ≡ filter_map h xs
filter_map-filter h q none [] = refl
filter_map-filter h q none (x ∷ xs) =
    elim (q x) as (λ t. q x ≡ t → filter_map h (cond t (x ∷ filter q xs) (filter q xs)) ≡ cons_option (h x)
    (filter_map h xs)) [
      | true ↦ (λ e. ap (cons_option (h x)) (filter_map-filter h q none xs))
      | false ↦ (λ e. rw (none x e) (filter_map-filter h q none xs))
    ] refl

-- where nothing that it keeps is
pub filter_map-filter_none : {X Y : Type 0} (h : X → Option Y) (q : X → Bool) → ((x : X) → q x ≡ true → h x ≡ None)
    → (xs : List X)
    → filter_map h (filter q xs) ≡ []
filter_map-filter_none h q none [] = refl
filter_map-filter_none h q none (x ∷ xs) =
    elim (q x) as (λ t. q x ≡ t → filter_map h (cond t (x ∷ filter q xs) (filter q xs)) ≡ []) [
      | true ↦ (λ e. rw (none x e) (filter_map-filter_none h q none xs))
      | false ↦ (λ e. filter_map-filter_none h q none xs)
    ] refl

pub find-append_left : {X : Type 0} (p : X → Bool) (xs ys : List X) → list_any p ys ≡ false
    → find p (xs ++ ys) ≡ find p xs
find-append_left p [] [] h = refl
find-append_left p [] (y ∷ ys) h =
    let parts = or_parts (p y) (list_any p ys) h in rw parts.0 (find-append_left p [] ys parts.1)
find-append_left p (x ∷ xs) ys h = ap (cond (p x) (Some x)) (find-append_left p xs ys h)

pub find-append_right : {X : Type 0} (p : X → Bool) (xs ys : List X) → list_any p xs ≡ false
    → find p (xs ++ ys) ≡ find p ys
find-append_right p [] ys h = refl
find-append_right p (x ∷ xs) ys h =
    let parts = or_parts (p x) (list_any p xs) h in rw parts.0 (find-append_right p xs ys parts.1)

pub list_any-map_same : {X : Type 0} (p : X → Bool) (r : X → X) → ((x : X) → p (r x) ≡ p x) → (xs : List X)
    → list_any p (map r xs) ≡ list_any p xs
list_any-map_same p r h [] = refl
list_any-map_same p r h (x ∷ xs) = rw (h x, list_any-map_same p r h xs) refl

pub find-map_same : {X : Type 0} (p : X → Bool) (r : X → X) → ((x : X) → p (r x) ≡ p x)
    → ((x : X) → p x ≡ true → r x ≡ x) → (xs : List X)
    → find p (map r xs) ≡ find p xs
find-map_same p r h k [] = refl
find-map_same p r h k (x ∷ xs) =
    rw (h x, find-map_same p r h k xs)
    (elim (p x) as (λ u. p x ≡ u → cond u (Some (r x)) (find p xs) ≡ cond u (Some x) (find p xs)) [
      | true ↦ (λ e. ap Some (k x e))
      | false ↦ (λ e. refl)
    ] refl)

pub filter_map-map_same : {X Y : Type 0} (h : X → Option Y) (r : X → X) → ((x : X) → h (r x) ≡ h x) → (xs : List X)
    → filter_map h (map r xs) ≡ filter_map h xs
filter_map-map_same h r k [] = refl
filter_map-map_same h r k (x ∷ xs) = rw (k x, filter_map-map_same h r k xs) refl
