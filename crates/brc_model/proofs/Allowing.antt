-- Each move is allowed where its test says so, and nowhere else.
use Rattle.std.proofs.Common.{◌≡◌, ℕ, ◌+◌, ◌≤◌, suc, zero, true, false, Some, List, [], ◌∷◌, length, refl, slice_get}
use Rattle.std.proofs.Common.{arith, inl, inr}
use Rattle.std.specs.Prelude.{◌==◌, ◌&&◌, ◌||◌, not, nat_le, nat_lt, is_none}
use Rattle.std.specs.List.{list_any}
use Rattle.std.proofs.lemmas.Bool.{or_left, or_right, eqb-true, eq-eqb, ne_eqb, eqb-false, or_cases, and_parts}
use Rattle.std.proofs.lemmas.Bool.{and_from, not-true, not_from_false, leb-true, le-leb, ltb-true, ltb-false, leb-false}
use Rattle.std.proofs.lemmas.Option.{slice_get_past, slice_get_within}
use Rattle.brc_words.specs.declared.kind.Kind.{Kind}
use Rattle.brc_words.specs.Kinds.{is_mortal, is_container}
use Rattle.brc_model.specs.declared.holder.Holder.{Holder}
use Rattle.brc_model.specs.declared.holder.Holder.TheVariants.{Frame, Entry, Queue, Popped, Hand}
use Rattle.brc_model.specs.declared.moves.Spot.{Spot}
use Rattle.brc_model.specs.declared.moves.Exchange.{Exchange}
use Rattle.brc_model.specs.declared.moves.Exchange.TheVariants.{Put, Take, Swap}
use Rattle.brc_model.specs.declared.moves.Handover.{Handover}
use Rattle.brc_model.specs.declared.fact.Fact.{Fact}
use Rattle.brc_model.specs.Holders.{has, MayBeBorn, MayBeAdded, MayBeRemoved, MayBeHanded, IsNoEntry, IsLastOfDead}
use Rattle.brc_model.specs.Holders.{MayDie, MayBeChanged, IsContainer, Occupies, FitsIn, EntryFits, place_used}
use Rattle.brc_model.specs.Holders.{is_number}
use Rattle.brc_words.specs.declared.limits.TheConstants.{FIRST_MORTAL, GLOBALS}
use Rattle.brc_model.specs.Facts.{says_lives, entries_in, map_of}
use Rattle.brc_model.specs.Tests.{names, is_no_entry, test_held, test_vacant, test_may_hold, test_born, test_add}
use Rattle.brc_model.specs.Tests.{test_last, test_remove, test_dies, test_occupies, test_container, test_entry}
use Rattle.brc_model.specs.Tests.{test_fits, test_change}
use Rattle.brc_model.specs.Edits.{test_hand}
use Rattle.brc_model.proofs.Members.{is_number-true, is_number-from}
use Rattle.brc_model.proofs.Replacing.{MayHand-from_test}
use Rattle.brc_model.proofs.Deciding.{IsHeld-from_test, test-from_IsHeld, IsUnheld-from_test, test-from_IsUnheld}
use Rattle.brc_model.proofs.Deciding.{IsVacant-from_test, test-from_IsVacant, MayHold-from_test, test-from_MayHold}

pub length_from_none : (xs : List ℕ) (n : ℕ) → is_none (slice_get xs n) ≡ true → length xs ≤ n
length_from_none [] n e = omega arith
length_from_none (x ∷ xs) zero e = cc
length_from_none (x ∷ xs) (suc n) e = let h = length_from_none xs n e in omega arith

pub none_from_length : (xs : List ℕ) (n : ℕ) → length xs ≤ n → is_none (slice_get xs n) ≡ true
none_from_length xs n h = rw (slice_get_past xs n h) refl

empty_from_length : (xs : List ℕ) → length xs ≤ 0 → xs ≡ []
empty_from_length [] h = refl
empty_from_length (x ∷ xs) h = absurd (omega arith)

pub MayBeBorn-from_test : (facts : List Fact) (c : ℕ) (k : Kind) (h : Holder) → test_born facts c k h ≡ true
    → MayBeBorn (map_of facts) c k h
MayBeBorn-from_test facts c k h e =
    let live = list_any (says_lives c) facts in
    let p = and_parts (nat_le FIRST_MORTAL c && not live && is_mortal k) (test_may_hold facts c h) e in
    let q = and_parts (nat_le FIRST_MORTAL c && not live) (is_mortal k) p.0 in
    let r = and_parts (nat_le FIRST_MORTAL c) (not live) q.0 in
    record {
      mortal = leb-true FIRST_MORTAL c r.0;
      new = not-true live r.1;
      kind_is_born = q.1;
      holder_is_new = MayHold-from_test facts c h p.1;
    }

pub test-from_MayBeBorn : (facts : List Fact) (c : ℕ) (k : Kind) (h : Holder) → MayBeBorn (map_of facts) c k h
    → test_born facts c k h ≡ true
test-from_MayBeBorn facts c k h may =
    let live = list_any (says_lives c) facts in
    and_from (nat_le FIRST_MORTAL c && not live && is_mortal k) (test_may_hold facts c h)
    (and_from (nat_le FIRST_MORTAL c && not live) (is_mortal k)
    (and_from (nat_le FIRST_MORTAL c) (not live) (le-leb FIRST_MORTAL c may.mortal) (not_from_false live may.new))
    may.kind_is_born)
    (test-from_MayHold facts c h may.holder_is_new)

pub MayBeAdded-from_test : (facts : List Fact) (c : ℕ) (h : Holder) → test_add facts c h ≡ true
    → MayBeAdded (map_of facts) c h
MayBeAdded-from_test facts c h e =
    let p = and_parts (test_held facts c && not (has (map_of facts) c h)) (test_may_hold facts c h) e in
    let q = and_parts (test_held facts c) (not (has (map_of facts) c h)) p.0 in
    record {
      is_held = IsHeld-from_test facts c q.0;
      not_yet = not-true (has (map_of facts) c h) q.1;
      holder_is_new = MayHold-from_test facts c h p.1;
    }

pub test-from_MayBeAdded : (facts : List Fact) (c : ℕ) (h : Holder) → MayBeAdded (map_of facts) c h
    → test_add facts c h ≡ true
test-from_MayBeAdded facts c h may =
    and_from (test_held facts c && not (has (map_of facts) c h)) (test_may_hold facts c h)
    (and_from (test_held facts c) (not (has (map_of facts) c h)) (test-from_IsHeld facts c may.is_held)
    (not_from_false (has (map_of facts) c h) may.not_yet))
    (test-from_MayHold facts c h may.holder_is_new)

pub IsLastOfDead-from_test : (facts : List Fact) (c cell index : ℕ) → test_last facts c cell index ≡ true
    → IsLastOfDead (map_of facts) c cell index
IsLastOfDead-from_test facts c cell index e =
    let live = list_any (says_lives cell) facts in
    let named = list_any (names cell) facts in
    let es = entries_in facts cell in
    let p = and_parts (live && not named && is_none (slice_get es (index + 1))) (is_number (slice_get es index) c) e in
    let q = and_parts (live && not named) (is_none (slice_get es (index + 1))) p.0 in
    let r = and_parts live (not named) q.0 in
    let there : slice_get es index ≡ Some c = is_number-true (slice_get es index) c p.1 in
    let most = length_from_none es (index + 1) q.1 in
    let least = slice_get_within es index c there in
    record {
      live = r.0;
      unheld = IsUnheld-from_test facts cell (not-true named r.1);
      last = omega arith;
      there = there;
    }

pub test-from_IsLastOfDead : (facts : List Fact) (c cell index : ℕ) → IsLastOfDead (map_of facts) c cell index
    → test_last facts c cell index ≡ true
test-from_IsLastOfDead facts c cell index may =
    let live = list_any (says_lives cell) facts in
    let named = list_any (names cell) facts in
    let es = entries_in facts cell in
    let short : length es ≤ index + 1 = omega (arith, may.last) in
    and_from (live && not named && is_none (slice_get es (index + 1))) (is_number (slice_get es index) c)
    (and_from (live && not named) (is_none (slice_get es (index + 1)))
    (and_from live (not named) may.live (not_from_false named (test-from_IsUnheld facts cell may.live may.unheld)))
    (none_from_length es (index + 1) short))
    (is_number-from (slice_get es index) c may.there)

pub MayBeRemoved-from_test : (facts : List Fact) (c : ℕ) (h : Holder) → test_remove facts c h ≡ true
    → MayBeRemoved (map_of facts) c h
MayBeRemoved-from_test facts c (Frame thread place) e = e
MayBeRemoved-from_test facts c (Entry cell index) e = IsLastOfDead-from_test facts c cell index e
MayBeRemoved-from_test facts c (Queue thread cell) e = e
MayBeRemoved-from_test facts c (Popped thread cell) e = e
MayBeRemoved-from_test facts c (Hand thread cell) e = e

pub test-from_MayBeRemoved : (facts : List Fact) (c : ℕ) (h : Holder) → MayBeRemoved (map_of facts) c h
    → test_remove facts c h ≡ true
test-from_MayBeRemoved facts c (Frame thread place) may = may
test-from_MayBeRemoved facts c (Entry cell index) may = test-from_IsLastOfDead facts c cell index may
test-from_MayBeRemoved facts c (Queue thread cell) may = may
test-from_MayBeRemoved facts c (Popped thread cell) may = may
test-from_MayBeRemoved facts c (Hand thread cell) may = may

pub MayDie-from_test : (facts : List Fact) (c : ℕ) → test_dies facts c ≡ true → MayDie (map_of facts) c
MayDie-from_test facts c e =
    let live = list_any (says_lives c) facts in
    let named = list_any (names c) facts in
    let p = and_parts (live && not named) (is_none (slice_get (entries_in facts c) 0)) e in
    let q = and_parts live (not named) p.0 in
    record {
      live = q.0;
      unheld = IsUnheld-from_test facts c (not-true named q.1);
      empty = empty_from_length
          (entries_in facts c) (length_from_none (entries_in facts c) 0 p.1);
    }

pub test-from_MayDie : (facts : List Fact) (c : ℕ) → MayDie (map_of facts) c → test_dies facts c ≡ true
test-from_MayDie facts c may =
    let live = list_any (says_lives c) facts in
    let named = list_any (names c) facts in
    let none : is_none (slice_get (entries_in facts c) 0) ≡ true = rw may.empty refl in
    and_from (live && not named) (is_none (slice_get (entries_in facts c) 0))
    (and_from live (not named) may.live (not_from_false named (test-from_IsUnheld facts c may.live may.unheld))) none

IsNoEntry-from_test : (h : Holder) → is_no_entry h ≡ true → IsNoEntry h
IsNoEntry-from_test (Frame thread place) e = tt
IsNoEntry-from_test (Entry cell index) e = cc
IsNoEntry-from_test (Queue thread cell) e = tt
IsNoEntry-from_test (Popped thread cell) e = tt
IsNoEntry-from_test (Hand thread cell) e = tt

test-from_IsNoEntry : (h : Holder) → IsNoEntry h → is_no_entry h ≡ true
test-from_IsNoEntry (Frame thread place) e = refl
test-from_IsNoEntry (Entry cell index) e = absurd e
test-from_IsNoEntry (Queue thread cell) e = refl
test-from_IsNoEntry (Popped thread cell) e = refl
test-from_IsNoEntry (Hand thread cell) e = refl

pub MayBeHanded-from_test : (facts : List Fact) (x : Handover) → test_hand facts x ≡ true → MayBeHanded (map_of facts) x
MayBeHanded-from_test facts x e =
    let may = MayHand-from_test facts x e in
    record {
      from_no_entry = IsNoEntry-from_test x.«from» may.outside;
      held = may.held;
      not_yet = may.not_yet;
      holder_is_new = MayHold-from_test facts x.object x.to may.may;
    }

pub test-from_MayBeHanded : (facts : List Fact) (x : Handover) → MayBeHanded (map_of facts) x → test_hand facts x ≡ true
test-from_MayBeHanded facts x may =
    let outside = is_no_entry x.«from» in
    let held = has (map_of facts) x.object x.«from» in
    let new = has (map_of facts) x.object x.to in
    and_from (outside && held && not new) (test_may_hold facts x.object x.to)
    (and_from (outside && held) (not new)
    (and_from outside held (test-from_IsNoEntry x.«from» may.from_no_entry) may.held) (not_from_false new may.not_yet))
    (test-from_MayHold facts x.object x.to may.holder_is_new)

Occupies-from_test : (facts : List Fact) (c thread place : ℕ) → test_occupies facts c thread place ≡ true
    → Occupies (map_of facts) c thread place
Occupies-from_test facts c thread place e mortal =
    elim (or_cases (nat_lt c FIRST_MORTAL) (has (map_of facts) c (Frame thread place)) e) [
      | inl low ↦ let below = ltb-true c FIRST_MORTAL low in absurd (omega arith)
      | inr held ↦ held
    ]

test-from_Occupies : (facts : List Fact) (c thread place : ℕ) → Occupies (map_of facts) c thread place
    → test_occupies facts c thread place ≡ true
test-from_Occupies facts c thread place may =
    elim (nat_lt c FIRST_MORTAL) as (λ t. nat_lt c FIRST_MORTAL ≡ t
    → (t || has (map_of facts) c (Frame thread place)) ≡ true) [
      | true ↦ (λ e. refl)
      | false ↦ (λ e. may (ltb-false c FIRST_MORTAL e))
    ] refl

IsContainer-from_test : (facts : List Fact) (c : ℕ) → test_container facts c ≡ true → IsContainer (map_of facts) c
IsContainer-from_test facts c e =
    let live = (map_of facts).live c in
    let contains = is_container ((map_of facts).kind c) in
    elim (or_cases (c == GLOBALS) (live && contains) e) [
      | inl own ↦ inl (eqb-true c GLOBALS own)
      | inr both ↦ inr (and_parts live contains both)
    ]

test-from_IsContainer : (facts : List Fact) (c : ℕ) → IsContainer (map_of facts) c → test_container facts c ≡ true
test-from_IsContainer facts c may =
    let live = (map_of facts).live c in
    let contains = is_container ((map_of facts).kind c) in
    elim may [
      | inl own ↦ or_left (c == GLOBALS) (live && contains) (eq-eqb c GLOBALS own)
      | inr both ↦ or_right (c == GLOBALS) (live && contains) (and_from live contains both.0 both.1)
    ]

EntryFits-from_test : (facts : List Fact) (c : ℕ) (x : Exchange) → test_entry facts c x ≡ true
    → EntryFits (entries_in facts c) x
EntryFits-from_test facts c (Put place cell) e = let most = length_from_none (entries_in facts c) 1048575 e in
    omega arith
EntryFits-from_test facts c (Take index place cell) e = is_number-true (slice_get (entries_in facts c) index) cell e
EntryFits-from_test facts c (Swap index place cell old) e = is_number-true (slice_get (entries_in facts c) index) old e

test-from_EntryFits : (facts : List Fact) (c : ℕ) (x : Exchange) → EntryFits (entries_in facts c) x
    → test_entry facts c x ≡ true
test-from_EntryFits facts c (Put place cell) may = let most : length (entries_in facts c) ≤ 1048575 =
    omega (arith, may) in none_from_length (entries_in facts c) 1048575 most
test-from_EntryFits facts c (Take index place cell) may = is_number-from (slice_get (entries_in facts c) index) cell may
test-from_EntryFits facts c (Swap index place cell old) may =
    is_number-from (slice_get (entries_in facts c) index) old may

FitsIn-from_test : (facts : List Fact) (x : Exchange) (thread : ℕ) → test_fits facts x thread ≡ true
    → FitsIn (map_of facts) x thread
FitsIn-from_test facts (Put place cell) thread e = Occupies-from_test facts cell thread place e
FitsIn-from_test facts (Take index place cell) thread e = IsVacant-from_test facts thread place e
FitsIn-from_test facts (Swap index place cell old) thread e =
    let p = and_parts (test_occupies facts cell thread place)
    (nat_le FIRST_MORTAL cell || test_vacant facts thread place) e in (
      Occupies-from_test facts cell thread place p.0,
      λ low.
          elim (or_cases (nat_le FIRST_MORTAL cell) (test_vacant facts thread place) p.1) [
            | inl high ↦ let above = leb-true FIRST_MORTAL cell high in absurd (omega arith)
            | inr free ↦ IsVacant-from_test facts thread place free
          ],
    )

test-from_FitsIn : (facts : List Fact) (x : Exchange) (thread : ℕ) → FitsIn (map_of facts) x thread
    → test_fits facts x thread ≡ true
test-from_FitsIn facts (Put place cell) thread may = test-from_Occupies facts cell thread place may
test-from_FitsIn facts (Take index place cell) thread may = test-from_IsVacant facts thread place may
test-from_FitsIn facts (Swap index place cell old) thread may =
    and_from (test_occupies facts cell thread place) (nat_le FIRST_MORTAL cell || test_vacant facts thread place)
    (test-from_Occupies facts cell thread place may.0)
    (elim (nat_le FIRST_MORTAL cell) as (λ t. nat_le FIRST_MORTAL cell ≡ t
    → (t || test_vacant facts thread place) ≡ true) [
      | true ↦ (λ e. refl)
      | false ↦ (λ e. test-from_IsVacant facts thread place (may.1 (leb-false FIRST_MORTAL cell e)))
    ] refl)

pub entry_from_test_change : (facts : List Fact) (c : ℕ) (s : Spot) (x : Exchange) → test_change facts c s x ≡ true
    → test_entry facts c x ≡ true
entry_from_test_change facts c s x e =
    let container = test_container facts c in let holds = test_occupies facts c s.thread s.place in let other =
    not (place_used x == s.place) in
    let p = and_parts (container && holds && other && test_entry facts c x) (test_fits facts x s.thread) e in
    (and_parts (container && holds && other) (test_entry facts c x) p.0).1

pub MayBeChanged-from_test : (facts : List Fact) (c : ℕ) (s : Spot) (x : Exchange) → test_change facts c s x ≡ true
    → MayBeChanged (map_of facts) c s x
MayBeChanged-from_test facts c s x e =
    let container = test_container facts c in let holds = test_occupies facts c s.thread s.place in let other =
    not (place_used x == s.place) in
    let p = and_parts (container && holds && other && test_entry facts c x) (test_fits facts x s.thread) e in
    let q = and_parts (container && holds && other) (test_entry facts c x) p.0 in
    let r = and_parts (container && holds) other q.0 in
    let o = and_parts container holds r.0 in
    record {
      container = IsContainer-from_test facts c o.0;
      holds = Occupies-from_test facts c s.thread s.place o.1;
      other_place = eqb-false (place_used x) s.place (not-true (place_used x == s.place) r.1);
      entry = EntryFits-from_test facts c x q.1;
      fits = FitsIn-from_test facts x s.thread p.1;
    }

pub test-from_MayBeChanged : (facts : List Fact) (c : ℕ) (s : Spot) (x : Exchange) → MayBeChanged (map_of facts) c s x
    → test_change facts c s x ≡ true
test-from_MayBeChanged facts c s x may =
    let container = test_container facts c in let holds = test_occupies facts c s.thread s.place in let other =
    not (place_used x == s.place) in
    and_from (container && holds && other && test_entry facts c x) (test_fits facts x s.thread)
    (and_from (container && holds && other) (test_entry facts c x)
    (and_from (container && holds) other
    (and_from container holds (test-from_IsContainer facts c may.container)
    (test-from_Occupies facts c s.thread s.place may.holds))
    (not_from_false (place_used x == s.place) (ne_eqb (place_used x) s.place may.other_place)))
    (test-from_EntryFits facts c x may.entry))
    (test-from_FitsIn facts x s.thread may.fits)
