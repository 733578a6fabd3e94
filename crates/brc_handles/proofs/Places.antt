-- What becomes of many handles where one comes or goes.
use Rattle.std.proofs.Common.{arith, ◌≡◌, ◌≢◌, ℕ, zero, suc, ◌+◌, ◌<◌, List, [], ◌∷◌, ◌++◌, Option, Some, None, length}
use Rattle.std.proofs.Common.{get_or, replicate, slice_set, refl, sym, ◌∙◌, ap, ◌⊎◌, inl, inr, subst}
use Rattle.std.specs.Prelude.{IfSome, IfNone, MatchOption}
use Rattle.std.specs.List.{SwappedAt}
use Rattle.std.proofs.lemmas.Bool.{cases_eq}
use Rattle.std.proofs.lemmas.Grind.{common_steps}
use Rattle.std.proofs.Math.Seq.{get_or-append_seam}
use Rattle.brc_count.specs.Frames.{HandleSeen}
use Rattle.brc_handles.specs.Handles.{slot, filled, IsApart, AreApart, ComesIn, ComesOut, Exchanges, Swapped, IsBare}

-- ---- how many are there

-- how many handles one place has
one : Option HandleSeen → ℕ
one None = 0
one (Some h) = 1

filled-cons : (x : Option HandleSeen) (hs : List (Option HandleSeen)) → filled (x ∷ hs) ≡ filled hs + one x
unfolding one
filled-cons None hs = omega arith
filled-cons (Some h) hs = refl

filled-append : (hs : List (Option HandleSeen)) (x : Option HandleSeen) → filled (hs ++ x ∷ []) ≡ filled hs + one x
filled-append [] x = filled-cons x []
filled-append (None ∷ hs) x = filled-append hs x
filled-append (Some h ∷ hs) x = omega (arith, filled-append hs x)

filled-set : (hs : List (Option HandleSeen)) (i : ℕ) (x : Option HandleSeen) → i < length hs
    → filled (slice_set hs i x) + one (slot hs i) ≡ filled hs + one x
filled-set [] i x inside = absurd (omega arith)
filled-set (y ∷ hs) zero x inside = omega (arith, filled-cons x hs, filled-cons y hs)
filled-set (y ∷ hs) (suc i) x inside =
    let below : i < length hs = omega arith
    in omega (arith, filled-set hs i x below, filled-cons y hs, filled-cons y (slice_set hs i x))

filled_none : (hs : List (Option HandleSeen)) → ((k : ℕ) → slot hs k ≡ None) → filled hs ≡ 0
filled_none [] none = refl
filled_none (None ∷ hs) none = filled_none hs (λ k. none (suc k))
filled_none (Some h ∷ hs) none = let e : Some h ≡ None = none 0 in cc

-- ---- one comes, one goes

pub bare_of : (hs : List (Option HandleSeen)) → ((k : ℕ) → slot hs k ≡ None) → IsBare hs
bare_of hs none = record { count = filled_none hs none; places = none }

none_replicated : (n k : ℕ) → slot (replicate n None) k ≡ None
none_replicated n k = grind (arith, common_steps)

pub bare_replicated : (n : ℕ) → IsBare (replicate n None)
bare_replicated n = bare_of (replicate n None) (none_replicated n)

places_pushed : (hs : List (Option HandleSeen)) (h : HandleSeen) (k : ℕ)
    → (slot (hs ++ Some h ∷ []) k ≡ slot hs k) ⊎ (slot (hs ++ Some h ∷ []) k ≡ Some h)
places_pushed hs h k = grind (arith, common_steps)

places_popped : (hs : List (Option HandleSeen)) (h : HandleSeen) (k : ℕ)
    → (slot hs k ≡ slot (hs ++ Some h ∷ []) k) ⊎ (slot hs k ≡ None)
places_popped hs h k = grind (arith, common_steps)

places_set : (hs : List (Option HandleSeen)) (i : ℕ) (x : Option HandleSeen) (k : ℕ) → i < length hs
    → (slot (slice_set hs i x) k ≡ slot hs k) ⊎ (slot (slice_set hs i x) k ≡ x)
places_set hs i x k inside = grind (arith, common_steps)

pub apart_pushed : (hs : List (Option HandleSeen)) (h : HandleSeen) → AreApart hs → IsApart h hs
    → AreApart (hs ++ Some h ∷ [])
apart_pushed hs h are apart = grind (arith, common_steps)

filled_with_empty : (hs : List (Option HandleSeen)) → filled (hs ++ None ∷ []) ≡ filled hs
unfolding one
filled_with_empty hs = omega (arith, filled-append hs None)

slot_before : (hs : List (Option HandleSeen)) (x : Option HandleSeen) (k : ℕ) (h : HandleSeen) → slot hs k ≡ Some h
    → slot (hs ++ x ∷ []) k ≡ Some h
slot_before hs x k h is = grind (arith, common_steps)

inside_of : (hs : List (Option HandleSeen)) (k : ℕ) (h : HandleSeen) → slot hs k ≡ Some h → length hs ≢ k
inside_of hs k h is = grind (arith, common_steps)

-- what holds of the handle that is there holds where one may be there
if_there : (o : Option HandleSeen) (P : HandleSeen → Type 0) → ((h : HandleSeen) → o ≡ Some h → P h) → IfSome o P
if_there None P holds = tt
if_there (Some h) P holds = holds h refl

pub apart_popped : (hs : List (Option HandleSeen)) (x : Option HandleSeen) → AreApart (hs ++ x ∷ []) → AreApart hs
apart_popped hs x are = λ j k g h else is_g is_h. are j k g h else (slot_before hs x j g is_g)
    (slot_before hs x k h is_h)

apart_taken : (hs : List (Option HandleSeen)) (i : ℕ) (h : HandleSeen) → i < length hs → AreApart hs
    → slot hs i ≡ Some h
    → IsApart h (slice_set hs i None)
apart_taken hs i h inside are was = grind (arith, common_steps)

apart_last : (hs : List (Option HandleSeen)) (h : HandleSeen) → AreApart (hs ++ Some h ∷ []) → IsApart h hs
apart_last hs h are k = if_there (slot hs k) (λ g. h.place ≢ g.place)
    (λ g is. are (length hs) k h g (inside_of hs k g is) (get_or-append_seam hs (Some h) [] None)
    (slot_before hs (Some h) k g is))

apart_gone : (hs : List (Option HandleSeen)) (i : ℕ) (h gone : HandleSeen) → i < length hs → AreApart hs → IsApart h hs
    → slot hs i ≡ Some gone
    → IsApart gone (slice_set hs i (Some h))
apart_gone hs i h gone inside are apart was = grind (arith, common_steps)

pub pushed : (hs : List (Option HandleSeen)) (h : HandleSeen) → ComesIn hs (hs ++ Some h ∷ []) h
unfolding one
pushed hs h = record { count = filled-append hs (Some h); places = places_pushed hs h }

-- ---- the same, as the calls find it: `now` is what contracts see, and `hs` what is inside

pub pushed_to : (now hs mid new : List (Option HandleSeen)) (h : HandleSeen) → hs ≡ now → mid ≡ hs
    → new ≡ mid ++ Some h ∷ []
    → ComesIn now new h
pushed_to now hs mid new h view same more = rw (more, same, view) (pushed now h)

-- an empty place is no handle more
pub empty_more : (now hs mid new : List (Option HandleSeen)) → hs ≡ now → mid ≡ hs → new ≡ mid ++ None ∷ []
    → filled new ≡ filled now
empty_more now hs mid new view same more = rw (more, same, view) (filled_with_empty now)

-- the last place went, with what was in it
pub apart_less : (hs new : List (Option HandleSeen)) (last : Option HandleSeen) → hs ≡ new ++ last ∷ [] → AreApart hs
    → AreApart new
apart_less hs new last is are = let before : AreApart (new ++ last ∷ []) = rw is at are in apart_popped new last before

none_before : (hs : List (Option HandleSeen)) (x : Option HandleSeen) (k : ℕ) → slot (hs ++ x ∷ []) k ≡ None
    → slot hs k ≡ None
none_before hs x k none = grind (arith, common_steps)

pub none_less : (hs new : List (Option HandleSeen)) (last : Option HandleSeen) → hs ≡ new ++ last ∷ []
    → ((k : ℕ) → slot hs k ≡ None)
    → (k : ℕ) → slot new k ≡ None
none_less hs new last is none k = let before : slot (new ++ last ∷ []) k ≡ None = rw is at (none k) in
    none_before new last k before

popped : (new : List (Option HandleSeen)) (last : Option HandleSeen) → AreApart (new ++ last ∷ [])
    → IfSome last (ComesOut (new ++ last ∷ []) new (length new))
unfolding one
popped new None are = tt
popped new (Some h) are = record {
  count = sym (filled-append new (Some h));
  was = get_or-append_seam new (Some h) [] None;
  places = places_popped new h;
  apart = apart_last new h are;
}

pub popped_from : (now hs new : List (Option HandleSeen)) (last : Option HandleSeen) → hs ≡ now → hs ≡ new ++ last ∷ []
    → AreApart hs
    → IfSome last (ComesOut now new (length new))
popped_from now hs new last view is are =
    let before : AreApart (new ++ last ∷ []) = rw is at are
    in let same : now ≡ new ++ last ∷ [] = cc
    in rw same (popped new last before)

-- what was in a place came out, and it is empty
taken : (hs : List (Option HandleSeen)) (i : ℕ) (was : Option HandleSeen) → i < length hs → AreApart hs
    → slot hs i ≡ was
    → IfSome was (ComesOut hs (slice_set hs i None) i)
unfolding one
taken hs i None inside are is = tt
taken hs i (Some h) inside are is = record {
  count = let n = filled-set hs i None inside in omega (arith, ap one is);
  was = is;
  places = λ k. places_set hs i None k inside;
  apart = apart_taken hs i h inside are is;
}

found_slot : (hs : List (Option HandleSeen)) (i : ℕ) (was found : Option HandleSeen) → i < length hs
    → found ≡ get_or hs i found
    → was ≡ found → slot hs i ≡ was
found_slot hs i was found inside is same = grind (arith, common_steps)

pub taken_from : (now hs : List (Option HandleSeen)) (i : ℕ) (found was left : Option HandleSeen) → hs ≡ now
    → i < length now
    → AreApart hs → found ≡ get_or hs i found → was ≡ found → left ≡ None
    → IfSome was (ComesOut now (slice_set hs i left) i)
taken_from now hs i found was left view inside are is same none =
    let within : i < length hs = rw view inside
    in rw (← view, none) (taken hs i was within are (found_slot hs i was found within is same))

-- a handle came into an empty place
put_in : (hs : List (Option HandleSeen)) (i : ℕ) (was : Option HandleSeen) (h : HandleSeen) → i < length hs
    → slot hs i ≡ was
    → IfNone was (ComesIn hs (slice_set hs i (Some h)) h)
unfolding one
put_in hs i (Some g) h inside is = tt
put_in hs i None h inside is = record {
  count = let n = filled-set hs i (Some h) inside in omega (arith, ap one is);
  places = λ k. places_set hs i (Some h) k inside;
}

pub put_into : (now hs : List (Option HandleSeen)) (i : ℕ) (found was left : Option HandleSeen) (h : HandleSeen)
    → hs ≡ now
    → i < length now → found ≡ get_or hs i found → was ≡ found → left ≡ Some h
    → IfNone was (ComesIn now (slice_set hs i left) h)
put_into now hs i found was left h view inside is same put =
    let within : i < length hs = rw view inside
    in rw (← view, put) (put_in hs i was h within (found_slot hs i was found within is same))

-- a handle came into a place, and another out
exchanged : (hs : List (Option HandleSeen)) (i : ℕ) (was : Option HandleSeen) (h : HandleSeen) → i < length hs
    → AreApart hs
    → IsApart h hs → slot hs i ≡ was → IfSome was (Exchanges hs (slice_set hs i (Some h)) i h)
unfolding one
exchanged hs i None h inside are apart is = tt
exchanged hs i (Some gone) h inside are apart is = record {
  count = let n = filled-set hs i (Some h) inside in omega (arith, ap one is);
  was = is;
  places = λ k. places_set hs i (Some h) k inside;
  apart = apart_gone hs i h gone inside are apart is;
}

pub exchanged_with : (now hs : List (Option HandleSeen)) (i : ℕ) (found was left : Option HandleSeen) (h : HandleSeen)
    → hs ≡ now
    → i < length now → AreApart hs → IsApart h now → found ≡ get_or hs i found → was ≡ found → left ≡ Some h
    → IfSome was (Exchanges now (slice_set hs i left) i h)
exchanged_with now hs i found was left h view inside are apart is same put =
    let within : i < length hs = rw view inside
    in let else : IsApart h hs = rw view apart
    in rw (← view, put) (exchanged hs i was h within are else (found_slot hs i was found within is same))

-- places that were all made empty
pub bare_made : (hs : List (Option HandleSeen)) (n : ℕ) → hs ≡ replicate n None → IsBare hs
bare_made hs n is = rw is (bare_replicated n)

pub bare_apart : (hs : List (Option HandleSeen)) → IsBare hs → AreApart hs
bare_apart hs bare = λ j k g h else is_g is_h. let e : Some g ≡ None = sym is_g
    ∙ bare.places j in absurd (let no : ⊥ = cc in no)

-- what is apart from all that were there is apart from those that are
pub apart_still : (old new : List (Option HandleSeen)) (h : HandleSeen)
    → ((k : ℕ) → (slot new k ≡ slot old k) ⊎ (slot new k ≡ None))
    → IsApart h old → IsApart h new
apart_still old new h places apart = λ k. grind (arith, places k, apart k)

-- ---- two places, each with what the other had

pub swapped_with : (now hs new : List (Option HandleSeen)) (i j : ℕ) → hs ≡ now → i < length hs → j < length hs
    → SwappedAt hs new i j
    → Swapped now new i j
swapped_with now hs new i j view i_in j_in at = rw (← view) (record {
  count =
      let mid : List (Option HandleSeen) = slice_set hs i (slot hs j) in
      let j_mid : j < length mid = grind (arith, common_steps) in
      let had : slot mid j ≡ slot hs j = grind (arith, common_steps) in
      let at_i = filled-set hs i (slot hs j) i_in in
      let at_j = filled-set mid j (slot hs i) j_mid in
      omega (arith, at_i, at_j, ap one had, ap filled (at.3 None));
  first = at.0 None;
  second = at.1 None;
  rest = λ k not_i not_j. at.2 k None not_i not_j;
})

-- what is so of each that was there is so of each that is
pub each_swapped : (P : HandleSeen → Type 0) (old new : List (Option HandleSeen)) (i j : ℕ) → Swapped old new i j
    → ((k : ℕ) → IfSome (slot old k) P) → (k : ℕ) → IfSome (slot new k) P
each_swapped P old new i j swapped all k = elim (cases_eq k i) [
  | inl is_i ↦ subst (λ (o : Option HandleSeen). IfSome o P) (sym (ap (slot new) is_i ∙ swapped.first)) (all j)
  | inr not_i ↦ elim (cases_eq k j) [
    | inl is_j ↦ subst (λ (o : Option HandleSeen). IfSome o P) (sym (ap (slot new) is_j ∙ swapped.second)) (all i)
    | inr not_j ↦ subst (λ (o : Option HandleSeen). IfSome o P) (sym (swapped.rest k not_i not_j)) (all k)
  ]
]

pub apart_swapped : (old new : List (Option HandleSeen)) (i j : ℕ) → Swapped old new i j → AreApart old → AreApart new
apart_swapped old new i j swapped are a b g h else is_g is_h =
    let from_i : (k : ℕ) (x : HandleSeen) → k ≡ i → slot new k ≡ Some x → slot old j ≡ Some x
    = λ k x is_i is. sym swapped.first ∙ sym (ap (slot new) is_i) ∙ is in
    let from_j : (k : ℕ) (x : HandleSeen) → k ≡ j → slot new k ≡ Some x → slot old i ≡ Some x
    = λ k x is_j is. sym swapped.second ∙ sym (ap (slot new) is_j) ∙ is in
    let stays : (k : ℕ) (x : HandleSeen) → k ≢ i → k ≢ j → slot new k ≡ Some x → slot old k ≡ Some x
    = λ k x not_i not_j is. sym (swapped.rest k not_i not_j) ∙ is in
    elim (cases_eq a i) [
      | inl a_i ↦ elim (cases_eq b j) [
        | inl b_j ↦ are j i g h (omega arith) (from_i a g a_i is_g) (from_j b h b_j is_h)
        | inr b_not ↦ are j b g h (omega arith) (from_i a g a_i is_g) (stays b h (omega arith) b_not is_h)
      ]
      | inr a_not ↦ elim (cases_eq a j) [
        | inl a_j ↦ elim (cases_eq b i) [
          | inl b_i ↦ are i j g h (omega arith) (from_j a g a_j is_g) (from_i b h b_i is_h)
          | inr b_not ↦ are i b g h (omega arith) (from_j a g a_j is_g) (stays b h b_not (omega arith) is_h)
        ]
        | inr a_else ↦ elim (cases_eq b i) [
          | inl b_i ↦ are a j g h (omega arith) (stays a g a_not a_else is_g) (from_i b h b_i is_h)
          | inr b_not ↦ elim (cases_eq b j) [
            | inl b_j ↦ are a i g h (omega arith) (stays a g a_not a_else is_g) (from_j b h b_j is_h)
            | inr b_else ↦ are a b g h else (stays a g a_not a_else is_g) (stays b h b_not b_else is_h)
          ]
        ]
      ]
    ]

-- ---- the last place went, whatever was in it

-- how many are there then
pub counted_less : (old new : List (Option HandleSeen)) (last : Option HandleSeen) → old ≡ new ++ last ∷ []
    → MatchOption last (filled new ≡ filled old) (λ h. filled new + 1 ≡ filled old)
unfolding one
counted_less old new None is = omega (arith, ap filled is, filled-append new None)
counted_less old new (Some h) is = omega (arith, ap filled is, filled-append new (Some h))

pub popped_count : (old new : List (Option HandleSeen)) (popped : Option (Option HandleSeen))
    → IfSome popped (λ last. old ≡ new ++ last ∷ [])
    → IfSome popped (λ last. MatchOption last (filled new ≡ filled old) (λ h. filled new + 1 ≡ filled old))
popped_count old new None is = tt
popped_count old new (Some last) is = counted_less old new last is

-- what is so of each that was there is so of each that is
pub each_less : (P : HandleSeen → Type 0) (old new : List (Option HandleSeen)) (last : Option HandleSeen)
    → old ≡ new ++ last ∷ [] → ((k : ℕ) → IfSome (slot old k) P) → (k : ℕ) → IfSome (slot new k) P
each_less P old new last is all k = if_there (slot new k) P (λ h there.
    subst (λ (o : Option HandleSeen). IfSome o P)
    (ap (λ (l : List (Option HandleSeen)). slot l k) is ∙ slot_before new last k h there) (all k))

-- what is so of each is so of the one in this place
pub each_at : (P : HandleSeen → Type 0) (hs : List (Option HandleSeen)) (k : ℕ) (h : HandleSeen) → slot hs k ≡ Some h
    → ((j : ℕ) → IfSome (slot hs j) P) → P h
each_at P hs k h is all = subst (λ (o : Option HandleSeen). IfSome o P) is (all k)

-- what is apart from all that were there is apart from what was in the last place
pub beside_last : (old new : List (Option HandleSeen)) (popped : Option (Option HandleSeen))
    → IfSome popped (λ last. old ≡ new ++ last ∷ [])
    → IfSome popped (λ last. IfSome last (λ handle. (h : HandleSeen) → IsApart h old → h.place ≢ handle.place))
beside_last old new None is = tt
beside_last old new (Some None) is = tt
beside_last old new (Some (Some handle)) is = λ h apart.
    each_at (λ (g : HandleSeen). h.place ≢ g.place) old (length new) handle
    (ap (λ (l : List (Option HandleSeen)). slot l (length new)) is ∙ get_or-append_seam new (Some handle) [] None) apart

pub each_popped : (P : HandleSeen → Type 0) (old new : List (Option HandleSeen)) (popped : Option (Option HandleSeen))
    → IfSome popped (λ last. old ≡ new ++ last ∷ []) → IfNone popped ((old ≡ []) × (new ≡ []))
    → ((k : ℕ) → IfSome (slot old k) P) → (k : ℕ) → IfSome (slot new k) P
each_popped P old new None is none all k =
    subst (λ (l : List (Option HandleSeen)). IfSome (slot l k) P) (sym none.1) tt
each_popped P old new (Some last) is none all k = each_less P old new last is all k
