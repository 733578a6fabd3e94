-- A holder that is exchanged for another, and back.
use Rattle.std.proofs.Common.{◌≡◌, ℕ, true, false, cond, refl, sym, List, [], ◌∷◌, map}
use Rattle.std.specs.Prelude.{◌==◌, ◌&&◌, not}
use Rattle.std.specs.List.{list_any}
use Rattle.std.proofs.lemmas.Bool.{eqb-true, eq-eqb, and_parts, and_from, or_parts, not-true}
use Rattle.brc_model.specs.declared.holder.Holder.{Holder}
use Rattle.brc_model.specs.declared.holder.Holder.TheVariants.{Frame, Entry, Queue, Popped, Hand}
use Rattle.brc_model.specs.declared.moves.Handover.{Handover}
use Rattle.brc_model.specs.declared.fact.Fact.{Fact}
use Rattle.brc_model.specs.declared.fact.Fact.TheVariants.{Lives, Holds, Contains}
use Rattle.brc_model.specs.Holders.{has, same_holder}
use Rattle.brc_model.specs.Facts.{says_lives, says_held, map_of}
use Rattle.brc_model.specs.Tests.{is_no_entry, test_may_hold}
use Rattle.brc_model.specs.Edits.{replaced, test_hand}
use Rattle.brc_model.proofs.Places.{same_holder-true, same_holder-refl}

-- a fact that says so is this one
pub says_held-true : (c : ℕ) (h : Holder) (f : Fact) → says_held c h f ≡ true → f ≡ Holds c h
says_held-true c h (Lives object kind) e = cc
says_held-true c h (Holds object holder) e =
    let p = and_parts (c == object) (same_holder h holder) e in
    let i : c ≡ object = eqb-true c object p.0 in
    let j : h ≡ holder = same_holder-true h holder p.1 in
    cc
says_held-true c h (Contains cell object) e = cc

pub says_held-own : (c : ℕ) (h : Holder) → says_held c h (Holds c h) ≡ true
says_held-own c h = and_from (c == c) (same_holder h h) (eq-eqb c c refl) (same_holder-refl h)

replaced_back : (c : ℕ) (g h : Holder) (f : Fact) → says_held c h f ≡ false → replaced c h g (replaced c g h f) ≡ f
replaced_back c g h f absent =
    elim (says_held c g f) as (λ b. says_held c g f ≡ b → replaced c h g (cond b (Holds c h) f) ≡ f) [
      | true ↦ (λ e. rw (says_held-own c h) (sym (says_held-true c g f e)))
      | false ↦ (λ e. rw absent refl)
    ] refl

-- where nobody had the new holder, the way back leads to what was before
pub map-replaced_back : (c : ℕ) (g h : Holder) (facts : List Fact) → list_any (says_held c h) facts ≡ false
    → map (replaced c h g) (map (replaced c g h) facts) ≡ facts
map-replaced_back c g h [] absent = refl
map-replaced_back c g h (f ∷ fs) absent =
    let p = or_parts (says_held c h f) (list_any (says_held c h) fs) absent in
    let first = replaced_back c g h f p.0 in
    let rest = map-replaced_back c g h fs p.1 in
    rw (first, rest) refl

-- a live object that hasn't a place is said by no fact to have it
pub list_any-says_held_false : (facts : List Fact) (c : ℕ) (h : Holder) → list_any (says_lives c) facts ≡ true
    → has (map_of facts) c h ≡ false → test_may_hold facts c h ≡ true → list_any (says_held c h) facts ≡ false
list_any-says_held_false facts c (Frame thread place) live absent may = rw live at absent
list_any-says_held_false facts c (Entry cell index) live absent may = cc
list_any-says_held_false facts c (Queue thread cell) live absent may = rw live at absent
list_any-says_held_false facts c (Popped thread cell) live absent may = rw live at absent
list_any-says_held_false facts c (Hand thread cell) live absent may = rw live at absent

-- what has a holder lives
pub has-live : (facts : List Fact) (c : ℕ) (h : Holder) → has (map_of facts) c h ≡ true
    → list_any (says_lives c) facts ≡ true
has-live facts c (Frame thread place) e = (and_parts (list_any (says_lives c) facts) _ e).0
has-live facts c (Entry cell index) e = (and_parts (list_any (says_lives c) facts) _ e).0
has-live facts c (Queue thread cell) e = (and_parts (list_any (says_lives c) facts) _ e).0
has-live facts c (Popped thread cell) e = (and_parts (list_any (says_lives c) facts) _ e).0
has-live facts c (Hand thread cell) e = (and_parts (list_any (says_lives c) facts) _ e).0

-- the parts of the test of a handover
pub record MayHand (facts : List Fact) (x : Handover) : Type 0 where
  pub outside : is_no_entry x.«from» ≡ true
  pub held : has (map_of facts) x.object x.«from» ≡ true
  pub not_yet : has (map_of facts) x.object x.to ≡ false
  pub may : test_may_hold facts x.object x.to ≡ true

pub MayHand-from_test : (facts : List Fact) (x : Handover) → test_hand facts x ≡ true → MayHand facts x
MayHand-from_test facts x e =
    let p = and_parts (is_no_entry x.«from» && has (map_of facts) x.object x.«from» && not
    (has (map_of facts) x.object x.to)) (test_may_hold facts x.object x.to) e in
    let q = and_parts (is_no_entry x.«from» && has (map_of facts) x.object x.«from»)
    (not (has (map_of facts) x.object x.to)) p.0 in
    let r = and_parts (is_no_entry x.«from») (has (map_of facts) x.object x.«from») q.0 in
    record { outside = r.0; held = r.1; not_yet = not-true (has (map_of facts) x.object x.to) q.1; may = p.1 }

pub map-handed_back : (facts : List Fact) (x : Handover) → test_hand facts x ≡ true
    → map (replaced x.object x.to x.«from») (map (replaced x.object x.«from» x.to) facts) ≡ facts
map-handed_back facts x e =
    let may = MayHand-from_test facts x e in
    map-replaced_back x.object x.«from» x.to facts
    (list_any-says_held_false facts x.object x.to (has-live facts x.object x.«from» may.held) may.not_yet may.may)
