-- The tests decide what the map allows.
use Rattle.std.proofs.Common.{◌≡◌, ℕ, Bool, true, false, cond, Some, None, List, refl, sym, slice_get}
use Rattle.std.specs.Prelude.{◌==◌}
use Rattle.std.specs.List.{list_any}
use Rattle.std.proofs.lemmas.Bool.{eqb-true, eq-eqb, both_ways, and_parts, and_from, false_from_ne_true, not-true}
use Rattle.std.proofs.lemmas.Bool.{not_from_false}
use Rattle.brc_model.specs.declared.holder.Holder.{Holder}
use Rattle.brc_model.specs.declared.holder.Holder.TheVariants.{Frame, Entry, Queue, Popped, Hand}
use Rattle.brc_model.specs.declared.fact.Fact.{Fact}
use Rattle.brc_model.specs.declared.fact.Fact.TheVariants.{Lives, Holds, Contains}
use Rattle.brc_model.specs.Holders.{has, IsHeld, IsUnheld, IsVacant, MayHold, same_holder, is_number}
use Rattle.brc_model.specs.Facts.{says_lives, says_held, entry_in, entries_in, map_of}
use Rattle.brc_model.specs.Tests.{names, is_no_entry, fills, test_held, test_vacant, test_may_hold}
use Rattle.brc_model.proofs.Places.{same_holder-refl}
use Rattle.brc_model.proofs.Replacing.{says_held-true}
use Rattle.brc_model.proofs.Members.{Member-from_any, list_any-implied, entry_from_any, any_from_entry}

-- a live object has each place that a fact of the list says, if that is no entry
has_from_any : (facts : List Fact) (c : ℕ) (h : Holder) → list_any (says_lives c) facts ≡ true → is_no_entry h ≡ true
    → list_any (says_held c h) facts ≡ true → has (map_of facts) c h ≡ true
has_from_any facts c (Frame thread place) live outside said = and_from (list_any (says_lives c) facts)
    (list_any (says_held c (Frame thread place)) facts) live said
has_from_any facts c (Entry cell index) live outside said = cc
has_from_any facts c (Queue thread cell) live outside said = and_from (list_any (says_lives c) facts)
    (list_any (says_held c (Queue thread cell)) facts) live said
has_from_any facts c (Popped thread cell) live outside said = and_from (list_any (says_lives c) facts)
    (list_any (says_held c (Popped thread cell)) facts) live said
has_from_any facts c (Hand thread cell) live outside said = and_from (list_any (says_lives c) facts)
    (list_any (says_held c (Hand thread cell)) facts) live said

held_by_fact : (facts : List Fact) (c : ℕ) (f : Fact) → list_any (says_lives c) facts ≡ true → names c f ≡ true
    → ((q : Fact → Bool) → q f ≡ true → list_any q facts ≡ true) → IsHeld (map_of facts) c
held_by_fact facts c (Lives object kind) live e stands = cc
held_by_fact facts c (Holds object holder) live e stands =
    let p = and_parts (c == object) (is_no_entry holder) e in (
      holder,
      has_from_any facts c holder live p.1
          (stands (says_held c holder) (and_from (c == object) (same_holder holder holder) p.0
          (same_holder-refl holder))),
    )
held_by_fact facts c (Contains cell object) live e stands =
    let own : is_number (entry_in cell (Contains cell object)) c ≡ true = rw (eq-eqb cell cell refl)
    (eq-eqb object c (sym (eqb-true c object e))) in
    let found = entry_from_any facts cell c (stands (λ f. is_number (entry_in cell f) c) own) in (
      Entry cell found.0,
      and_from (list_any (says_lives c) facts)
          (is_number (slice_get (entries_in facts cell) found.0) c) live found.1,
    )

pub IsHeld-from_test : (facts : List Fact) (c : ℕ) → test_held facts c ≡ true → IsHeld (map_of facts) c
IsHeld-from_test facts c e =
    let p = and_parts (list_any (says_lives c) facts) (list_any (names c) facts) e in
    let m = Member-from_any (names c) facts p.1 in
    held_by_fact facts c m.item p.0 m.passes m.stands

names_place : (c : ℕ) (h : Holder) → is_no_entry h ≡ true → (f : Fact) → says_held c h f ≡ true → names c f ≡ true
names_place c h outside f e = rw (says_held-true c h f e) (and_from (c == c) (is_no_entry h) (eq-eqb c c refl) outside)

names_entry : (c cell : ℕ) (f : Fact) → is_number (entry_in cell f) c ≡ true → names c f ≡ true
names_entry c cell (Lives object kind) e = cc
names_entry c cell (Holds object holder) e = cc
names_entry c cell (Contains container object) e =
    elim (cell == container) as (λ t. is_number (cond t (Some object) None) c ≡ true → (c == object) ≡ true) [
      | true ↦ (λ h. eq-eqb c object (sym (eqb-true object c h)))
      | false ↦ (λ h. cc)
    ] e

test_from_has : (facts : List Fact) (c : ℕ) (h : Holder) → has (map_of facts) c h ≡ true → test_held facts c ≡ true
test_from_has facts c (Frame thread place) e =
    let p = and_parts (list_any (says_lives c) facts) (list_any (says_held c (Frame thread place)) facts) e in
    and_from (list_any (says_lives c) facts) (list_any (names c) facts) p.0
    (list_any-implied (says_held c (Frame thread place)) (names c) (names_place c (Frame thread place) refl) facts p.1)
test_from_has facts c (Entry cell index) e =
    let p = and_parts (list_any (says_lives c) facts) (is_number (slice_get (entries_in facts cell) index) c) e in
    and_from (list_any (says_lives c) facts) (list_any (names c) facts) p.0
    (list_any-implied (λ f. is_number (entry_in cell f) c) (names c) (names_entry c cell) facts
    (any_from_entry facts cell c index p.1))
test_from_has facts c (Queue thread cell) e =
    let p = and_parts (list_any (says_lives c) facts) (list_any (says_held c (Queue thread cell)) facts) e in
    and_from (list_any (says_lives c) facts) (list_any (names c) facts) p.0
    (list_any-implied (says_held c (Queue thread cell)) (names c) (names_place c (Queue thread cell) refl) facts p.1)
test_from_has facts c (Popped thread cell) e =
    let p = and_parts (list_any (says_lives c) facts) (list_any (says_held c (Popped thread cell)) facts) e in
    and_from (list_any (says_lives c) facts) (list_any (names c) facts) p.0
    (list_any-implied (says_held c (Popped thread cell)) (names c) (names_place c (Popped thread cell) refl) facts p.1)
test_from_has facts c (Hand thread cell) e =
    let p = and_parts (list_any (says_lives c) facts) (list_any (says_held c (Hand thread cell)) facts) e in
    and_from (list_any (says_lives c) facts) (list_any (names c) facts) p.0
    (list_any-implied (says_held c (Hand thread cell)) (names c) (names_place c (Hand thread cell) refl) facts p.1)

pub test-from_IsHeld : (facts : List Fact) (c : ℕ) → IsHeld (map_of facts) c → test_held facts c ≡ true
test-from_IsHeld facts c held = test_from_has facts c held.0 held.1

pub IsUnheld-from_test : (facts : List Fact) (c : ℕ) → list_any (names c) facts ≡ false → IsUnheld (map_of facts) c
IsUnheld-from_test facts c none h =
    false_from_ne_true (has (map_of facts) c h)
    (λ e. both_ways (list_any (names c) facts) none
    (and_parts (list_any (says_lives c) facts) (list_any (names c) facts) (test_from_has facts c h e)).1)

pub test-from_IsUnheld : (facts : List Fact) (c : ℕ) → list_any (says_lives c) facts ≡ true → IsUnheld (map_of facts) c
    → list_any (names c) facts ≡ false
test-from_IsUnheld facts c live unheld =
    false_from_ne_true (list_any (names c) facts)
    (λ e. let held = IsHeld-from_test facts c
    (and_from (list_any (says_lives c) facts) (list_any (names c) facts) live e) in
    both_ways (has (map_of facts) c held.0) (unheld held.0) held.1)

-- a place of a frame that a fact says to be filled
pub IsVacant-from_test : (facts : List Fact) (thread place : ℕ) → test_vacant facts thread place ≡ true
    → IsVacant (map_of facts) thread place
IsVacant-from_test facts thread place e c =
    false_from_ne_true (has (map_of facts) c (Frame thread place)) (λ h.
    let p = and_parts (list_any (says_lives c) facts) (list_any (says_held c (Frame thread place)) facts) h in
    both_ways (list_any (fills facts thread place) facts) (not-true (list_any (fills facts thread place) facts) e)
    (list_any-implied (says_held c (Frame thread place)) (fills facts thread place)
    (λ f s. rw (says_held-true c (Frame thread place) f s)
    (and_from (same_holder (Frame thread place) (Frame thread place)) (list_any (says_lives c) facts)
    (same_holder-refl (Frame thread place)) p.0))
    facts p.1))

filled_by_fact : (facts : List Fact) (thread place : ℕ) (f : Fact) → fills facts thread place f ≡ true
    → ((q : Fact → Bool) → q f ≡ true → list_any q facts ≡ true)
    → (c : ℕ) × (has (map_of facts) c (Frame thread place) ≡ true)
filled_by_fact facts thread place (Lives object kind) e stands = cc
filled_by_fact facts thread place (Holds object holder) e stands =
    let p = and_parts (same_holder (Frame thread place) holder) (list_any (says_lives object) facts) e in (
      object,
      and_from (list_any (says_lives object) facts) (list_any (says_held object (Frame thread place)) facts) p.1
          (stands (says_held object (Frame thread place))
          (and_from (object == object) (same_holder (Frame thread place) holder) (eq-eqb object object refl) p.0)),
    )
filled_by_fact facts thread place (Contains cell object) e stands = cc

pub test-from_IsVacant : (facts : List Fact) (thread place : ℕ) → IsVacant (map_of facts) thread place
    → test_vacant facts thread place ≡ true
test-from_IsVacant facts thread place vacant =
    not_from_false (list_any (fills facts thread place) facts)
    (false_from_ne_true (list_any (fills facts thread place) facts) (λ e.
    let m = Member-from_any (fills facts thread place) facts e in
    let filled = filled_by_fact facts thread place m.item m.passes m.stands in
    both_ways (has (map_of facts) filled.0 (Frame thread place)) (vacant filled.0) filled.1))

pub MayHold-from_test : (facts : List Fact) (c : ℕ) (h : Holder) → test_may_hold facts c h ≡ true
    → MayHold (map_of facts) c h
MayHold-from_test facts c (Frame thread place) e = IsVacant-from_test facts thread place e
MayHold-from_test facts c (Entry cell index) e = cc
MayHold-from_test facts c (Queue thread cell) e = eqb-true cell c e
MayHold-from_test facts c (Popped thread cell) e = eqb-true cell c e
MayHold-from_test facts c (Hand thread cell) e = eqb-true cell c e

pub test-from_MayHold : (facts : List Fact) (c : ℕ) (h : Holder) → MayHold (map_of facts) c h
    → test_may_hold facts c h ≡ true
test-from_MayHold facts c (Frame thread place) may = test-from_IsVacant facts thread place may
test-from_MayHold facts c (Entry cell index) may = absurd may
test-from_MayHold facts c (Queue thread cell) may = eq-eqb cell c may
test-from_MayHold facts c (Popped thread cell) may = eq-eqb cell c may
test-from_MayHold facts c (Hand thread cell) may = eq-eqb cell c may
