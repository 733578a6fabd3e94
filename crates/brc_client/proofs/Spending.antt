-- How far the handles of a client have gone, by rising place, and their numbers with them.
use Rattle.std.proofs.Common.{arith, ◌≡◌, ◌≢◌, ◌<◌, ◌≤◌, ◌+◌, ℕ, List, Option, Some, None, slice_set}
use Rattle.std.proofs.Common.{refl, sym, ap, ◌∙◌, inl, inr}
use Rattle.std.specs.Prelude.{get_or}
use Rattle.std.proofs.lemmas.Bool.{cases_order}
use Rattle.std.proofs.lemmas.Grind.{common_steps}
use Rattle.brc_count.specs.Frames.{HandleSeen}
use Rattle.brc_handles.specs.Handles.{slot, IsBare}
use Rattle.brc_client.specs.Numbers.{NumbersSeen, once_more}
use Rattle.brc_client.specs.Clients.{vacated, SpendsEach}
use Rattle.brc_client.proofs.Placed.{slot_else}

-- Below this place each that had a handle was vacated once more, and from it on all is as it was.
pub record SpendsTo (at : ℕ) (before now : List (Option HandleSeen)) (was is : NumbersSeen) : Type 0 where
  pub stamp : is.stamp ≡ was.stamp
  pub of : is.of ≡ was.of
  pub done : (k : ℕ) → k < at → get_or is.uses k 0 ≡ vacated (slot before k) (get_or was.uses k 0)
  pub left : (k : ℕ) → at ≤ k → get_or is.uses k 0 ≡ get_or was.uses k 0
  pub there : (k : ℕ) → at ≤ k → slot now k ≡ slot before k

uses_else : (uses : List ℕ) (i k x : ℕ) → k ≢ i → get_or (slice_set uses i x) k 0 ≡ get_or uses k 0
uses_else uses i k x other = grind (arith, common_steps)

-- a place that has no handle is as often vacated as it was
left_alone : (o : Option HandleSeen) (u : ℕ) → o ≡ None → u ≡ vacated o u
left_alone o u none = ap (λ (p : Option HandleSeen). vacated p u) (sym none)

-- one that had a handle is so once more
left_by : (o : Option HandleSeen) (gone : HandleSeen) (u : ℕ) → o ≡ Some gone → once_more u ≡ vacated o u
left_by o gone u there = ap (λ (p : Option HandleSeen). vacated p u) (sym there)

-- none has gone yet
pub begins : (handles : List (Option HandleSeen)) (numbers : NumbersSeen) → SpendsTo 0 handles handles numbers numbers
begins handles numbers = record {
  stamp = refl;
  of = refl;
  done = λ k below. absurd (omega (arith, below));
  left = λ k past. refl;
  there = λ k past. refl;
}

-- the next place has none
pub passes : (at : ℕ) (before now : List (Option HandleSeen)) (was is : NumbersSeen) → SpendsTo at before now was is
    → slot now at ≡ None → SpendsTo (at + 1) before now was is
passes at before now was is so empty = record {
  stamp = so.stamp;
  of = so.of;
  done = λ k below. elim (cases_order k at) [
    | inl here ↦ so.left k (omega (arith, here)) ∙ left_alone (slot before k) (get_or was.uses k 0)
        (ap (slot before) here ∙ sym (so.there at (omega arith)) ∙ empty)
    | inr other ↦ elim other [
      | inl less ↦ so.done k less
      | inr more ↦ absurd (omega (arith, below, more))
    ]
  ];
  left = λ k past. so.left k (omega (arith, past));
  there = λ k past. so.there k (omega (arith, past));
}

-- the next place has one, which goes
pub vacates : (at : ℕ) (before now after : List (Option HandleSeen)) (was is new : NumbersSeen) (gone : HandleSeen)
    → SpendsTo at before now was is → slot now at ≡ Some gone → after ≡ slice_set now at None → new.stamp ≡ is.stamp
    → new.of ≡ is.of
    → new.uses ≡ slice_set is.uses at (once_more (get_or is.uses at 0))
    → get_or new.uses at 0 ≡ once_more (get_or is.uses at 0) → SpendsTo (at + 1) before after was new
vacates at before now after was is new gone so there set stamp of uses counted =
    let first : at ≤ at = omega arith in
    let others : (k : ℕ) → k ≢ at → get_or new.uses k 0 ≡ get_or is.uses k 0
    = λ k other. ap (λ (l : List ℕ). get_or l k 0) uses
    ∙ uses_else is.uses at k (once_more (get_or is.uses at 0)) other in
    let here : get_or new.uses at 0 ≡ vacated (slot before at) (get_or was.uses at 0)
    = counted ∙ ap once_more (so.left at first)
    ∙ left_by (slot before at) gone (get_or was.uses at 0) (sym (so.there at first) ∙ there) in
    record {
      stamp = stamp ∙ so.stamp;
      of = of ∙ so.of;
      done = λ k below. elim (cases_order k at) [
        | inl same ↦ (rw same here)
        | inr other ↦ elim other [
          | inl less ↦ others k (λ same. omega (arith, same, less)) ∙ so.done k less
          | inr more ↦ absurd (omega (arith, below, more))
        ]
      ];
      left = λ k past. others k (λ same. omega (arith, same, past)) ∙ so.left k (omega (arith, past));
      there = λ k past. ap (λ (l : List (Option HandleSeen)). slot l k) set
          ∙ slot_else now at k None (λ same. omega (arith, same, past)) ∙ so.there k (omega (arith, past));
    }

-- ---- at the end

-- all places were passed
pub spent_whole : (at : ℕ) (before now : List (Option HandleSeen)) (was is : NumbersSeen)
    → SpendsTo at before now was is → 65536 ≤ at → SpendsEach before was is
spent_whole at before now was is so whole = record {
  stamp = so.stamp;
  of = so.of;
  uses = λ k inside. so.done k (omega (arith, inside, whole));
}

-- or none has a handle any more
pub spent_bare : (at : ℕ) (before now : List (Option HandleSeen)) (was is : NumbersSeen)
    → SpendsTo at before now was is → IsBare now → SpendsEach before was is
spent_bare at before now was is so bare =
    let rest : (k : ℕ) → at ≤ k → get_or is.uses k 0 ≡ vacated (slot before k) (get_or was.uses k 0)
    = λ k past. so.left k past ∙ left_alone (slot before k) (get_or was.uses k 0)
    (sym (so.there k past) ∙ bare.places k) in
    record {
      stamp = so.stamp;
      of = so.of;
      uses = λ k inside. elim (cases_order k at) [
        | inl same ↦ rest k (omega (arith, same))
        | inr other ↦ elim other [
          | inl less ↦ so.done k less
          | inr more ↦ rest k (omega (arith, more))
        ]
      ];
    }
