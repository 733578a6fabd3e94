-- Places of a frame and entries of a list, after one is filled or given up.
use Rattle.std.proofs.Common.{◌≡◌, ◌≢◌, ℕ, ◌+◌, ◌-◌, ◌*◌, ◌<◌, ◌≤◌, ◌==◌, List, [], ◌∷◌, length, get_or, take, Option}
use Rattle.std.proofs.Common.{Some, None, replicate, slice_get, zero, suc, sum_by, refl, sym, ◌∙◌, ap, subst, inl, inr}
use Rattle.std.proofs.Common.{arith, length-append}
use Rattle.std.proofs.lemmas.List.{get_or-set_same, get_or-set_other, length-set, get_or_past, get_or-replicate}
use Rattle.std.proofs.lemmas.List.{get_or_append_left, get_or-append_right, length-replicate, take_all}
use Rattle.std.proofs.lemmas.List.Sums.{sum_by-set, sum_by-append, sum_by_more, get_or-le-sum_by}
use Rattle.std.proofs.lemmas.List.Folds.{sum_by-replicate}
use Rattle.std.proofs.lemmas.Option.{get_or_from_slice_get}
use Rattle.std.proofs.lemmas.Bool.{cases_lt}
use Rattle.brc_words.specs.declared.limits.TheConstants.{MOST_PLACES}
use Rattle.law.specs.world.Lists.{one, names, times, entry_times, place_at, reaching, filled, vacated, last_of}
use Rattle.law.specs.world.Lists.{front_of}

pub length-reaching : (frame : List (Option ℕ)) (k : ℕ)
    → length (reaching frame k) ≡ length frame + (k + 1 - length frame)
length-reaching frame k = length-append frame (replicate (k + 1 - length frame) None)
    ∙ ap (λ n. length frame + n) (length-replicate (k + 1 - length frame) None)

-- making a frame long enough changes nothing that is read
place_at-reaching : (frame : List (Option ℕ)) (k j : ℕ) → place_at (reaching frame k) j ≡ place_at frame j
place_at-reaching frame k j =
    let more : ℕ = k + 1 - length frame in
    elim (cases_lt j (length frame)) [
      | inl inside ↦ get_or_append_left frame (replicate more None) None j inside
      | inr past ↦
          get_or-append_right frame (replicate more None) (length frame) j None refl past
          ∙ elim (cases_lt (j - length frame) more) [
            | inl within ↦ get_or-replicate more (j - length frame) None None within
            | inr beyond ↦ get_or_past (replicate more None) (j - length frame) None
                (subst (λ n. n ≤ j - length frame) (sym (length-replicate more None)) beyond)
          ]
          ∙ sym (get_or_past frame j None past)
    ]

pub place_at-filled_here : (frame : List (Option ℕ)) (k c : ℕ) → place_at (filled frame k c) k ≡ Some c
place_at-filled_here frame k c = get_or-set_same (reaching frame k) k (Some c) None
    (omega (arith, length-reaching frame k))

pub place_at-filled_else : (frame : List (Option ℕ)) (k c j : ℕ) → j ≢ k
    → place_at (filled frame k c) j ≡ place_at frame j
place_at-filled_else frame k c j ne = get_or-set_other (reaching frame k) k j (Some c) None ne
    ∙ place_at-reaching frame k j

pub place_at-vacated_else : (frame : List (Option ℕ)) (k j : ℕ) → j ≢ k
    → place_at (vacated frame k) j ≡ place_at frame j
place_at-vacated_else frame k j ne = get_or-set_other frame k j None None ne

pub length-filled : (frame : List (Option ℕ)) (k c : ℕ) → k < MOST_PLACES → length frame ≤ MOST_PLACES
    → length (filled frame k c) ≤ MOST_PLACES
length-filled frame k c low short = omega (arith, length-reaching frame k, length-set (reaching frame k) k (Some c))

pub length-vacated : (frame : List (Option ℕ)) (k : ℕ) → length frame ≤ MOST_PLACES
    → length (vacated frame k) ≤ MOST_PLACES
length-vacated frame k short = omega (arith, length-set frame k None)

-- a place that was vacant holds the cell once more
pub times-filled : (q : ℕ) (frame : List (Option ℕ)) (k c : ℕ) → place_at frame k ≡ None
    → times q (filled frame k c) ≡ times q frame + one (c == q)
times-filled q frame k c vacant =
    let more : ℕ = k + 1 - length frame in
    let f : Option ℕ → ℕ = λ x. one (names q x) in
    let put = sum_by-set f (reaching frame k) k (Some c) None (omega (arith, length-reaching frame k)) in
    let was : f (place_at (reaching frame k) k) ≡ 0 = ap f (place_at-reaching frame k k ∙ vacant) in
    let reach : sum_by f (reaching frame k) ≡ sum_by f frame + more * 0 = sum_by-append f frame (replicate more None)
    ∙ ap (λ n. sum_by f frame + n) (sum_by-replicate f more None) in
    omega (arith, put, was, reach)

-- a place that held the cell gives it up
pub times-vacated : (q : ℕ) (frame : List (Option ℕ)) (k c : ℕ) → place_at frame k ≡ Some c
    → times q (vacated frame k) + one (c == q) ≡ times q frame
times-vacated q frame k c held =
    elim (cases_lt k (length frame)) [
      | inl inside ↦
          let f : Option ℕ → ℕ = λ x. one (names q x) in
          let put = sum_by-set f frame k None None inside in
          let was : f (place_at frame k) ≡ one (c == q) = ap f held in
          omega (arith, put, was)
      | inr past ↦ absurd (let e : None ≡ Some c = sym (get_or_past frame k None past) ∙ held in cc)
    ]

pub place_is_held : (q : ℕ) (frame : List (Option ℕ)) (k c : ℕ) → place_at frame k ≡ Some c
    → one (c == q) ≤ times q frame
place_is_held q frame k c held = omega (arith, times-vacated q frame k c held)

-- what is found at an index is within the list
pub found_inside : {A : Type 0} (xs : List A) (i : ℕ) (x : A) → slice_get xs i ≡ Some x → i < length xs
found_inside [] i x h = absurd (cc)
found_inside (y ∷ xs) zero x h = omega arith
found_inside (y ∷ xs) (suc i) x h = let more = found_inside xs i x h in omega arith

-- an entry is counted
pub entry_is_held : (q : ℕ) (xs : List ℕ) (i x : ℕ) → slice_get xs i ≡ Some x → one (x == q) ≤ entry_times q xs
entry_is_held q xs i x h =
    let inside : i < length xs = found_inside xs i x h in
    subst (λ (y : ℕ). one (y == q) ≤ entry_times q xs) (get_or_from_slice_get xs i x 0 h)
    (get_or-le-sum_by (λ (y : ℕ). one (y == q)) xs i 0 inside)

-- the last entry and the others
pub entry_times-front : (q : ℕ) (xs : List ℕ) (x : ℕ) → last_of xs ≡ Some x → entry_times q (front_of xs) + one (x == q)
    ≡ entry_times q xs
entry_times-front q xs x h =
    let f : ℕ → ℕ = λ y. one (y == q) in
    let inside : length xs - 1 < length xs = found_inside xs (length xs - 1) x h in
    let more = sum_by_more f xs (length xs - 1) 0 inside in
    let last : f (get_or xs (length xs - 1) 0) ≡ one (x == q) = ap f (get_or_from_slice_get xs (length xs - 1) x 0 h) in
    let count : length xs - 1 + 1 ≡ length xs = omega arith in
    let whole : sum_by f (take (length xs - 1 + 1) xs) ≡ sum_by f xs =
    ap (sum_by f) (take_all (length xs - 1 + 1) xs (omega arith)) in
    omega (arith, more, last, whole)
