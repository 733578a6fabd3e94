-- Handovers one after the other, on lists of facts and on the maps that these spell.
use Rattle.std.proofs.Common.{◌≡◌, ℕ, true, List, [], ◌∷◌, refl, sym, ◌∙◌, map}
use Rattle.std.specs.List.{list_any}
use Rattle.std.proofs.lemmas.Bool.{and_parts, and_from}
use Rattle.brc_model.specs.declared.holder.Holder.{Holder}
use Rattle.brc_model.specs.declared.holder.Holder.TheVariants.{Frame, Entry, Queue, Popped, Hand}
use Rattle.brc_model.specs.declared.moves.Handover.{Handover}
use Rattle.brc_model.specs.declared.fact.Fact.{Fact}
use Rattle.brc_model.specs.Holders.{Map, Same, has, MayHold, MayBeHanded, MayAllBeHanded, handed, all_handed}
use Rattle.brc_model.specs.Holders.{without_holder}
use Rattle.brc_model.specs.Facts.{says_lives, says_held, map_of}
use Rattle.brc_model.specs.Tests.{is_no_entry}
use Rattle.brc_model.specs.Edits.{handed_fact, test_hand, test_hand_all, hand_all}
use Rattle.brc_model.proofs.Maps.{Same-refl, Same-trans, Same-with, Same-without}
use Rattle.brc_model.proofs.Steps.{Same-replaced}
use Rattle.brc_model.proofs.Replacing.{MayHand-from_test}
use Rattle.brc_model.proofs.Allowing.{MayBeHanded-from_test, test-from_MayBeHanded}

Same-sym : (a b : Map) → Same a b → Same b a
Same-sym a b s = record {
  live = λ d. sym (s.live d);
  kind = λ d h. sym (s.kind d (s.live d ∙ h));
  entries = λ d. sym (s.entries d);
  held = λ d h. sym (s.held d h);
}

has-Same : (a b : Map) → Same a b → (c : ℕ) (h : Holder) → has a c h ≡ has b c h
has-Same a b s c (Frame thread place) = rw (s.live c, s.held c (Frame thread place)) refl
has-Same a b s c (Entry cell index) = rw (s.live c, s.entries cell) refl
has-Same a b s c (Queue thread cell) = rw (s.live c, s.held c (Queue thread cell)) refl
has-Same a b s c (Popped thread cell) = rw (s.live c, s.held c (Popped thread cell)) refl
has-Same a b s c (Hand thread cell) = rw (s.live c, s.held c (Hand thread cell)) refl

MayHold-Same : (a b : Map) → Same a b → (c : ℕ) (h : Holder) → MayHold a c h → MayHold b c h
MayHold-Same a b s c (Frame thread place) may = λ d. sym (has-Same a b s d (Frame thread place)) ∙ may d
MayHold-Same a b s c (Entry cell index) may = may
MayHold-Same a b s c (Queue thread cell) may = may
MayHold-Same a b s c (Popped thread cell) may = may
MayHold-Same a b s c (Hand thread cell) may = may

MayBeHanded-Same : (a b : Map) → Same a b → (x : Handover) → MayBeHanded a x → MayBeHanded b x
MayBeHanded-Same a b s x may = record {
  from_no_entry = may.from_no_entry;
  held = sym (has-Same a b s x.object x.«from») ∙ may.held;
  not_yet = sym (has-Same a b s x.object x.to) ∙ may.not_yet;
  holder_is_new = MayHold-Same a b s x.object x.to may.holder_is_new;
}

handed-Same : (a b : Map) → Same a b → (x : Handover) → Same (handed a x) (handed b x)
handed-Same a b s x =
    Same-with (record a { held = without_holder a.held x.object x.«from» })
    (record b { held = without_holder b.held x.object x.«from» }) x.object x.to
    (Same-without a b x.object x.«from» s)

MayAllBeHanded-Same : (a b : Map) → Same a b → (xs : List Handover) → MayAllBeHanded a xs → MayAllBeHanded b xs
MayAllBeHanded-Same a b s [] may = tt
MayAllBeHanded-Same a b s (x ∷ xs) may =
    (MayBeHanded-Same a b s x may.0, MayAllBeHanded-Same (handed a x) (handed b x) (handed-Same a b s x) xs may.1)

all_handed-Same : (a b : Map) → Same a b → (xs : List Handover) → Same (all_handed a xs) (all_handed b xs)
all_handed-Same a b s [] = s
all_handed-Same a b s (x ∷ xs) = all_handed-Same (handed a x) (handed b x) (handed-Same a b s x) xs

said_from_has : (facts : List Fact) (c : ℕ) (h : Holder) → is_no_entry h ≡ true → has (map_of facts) c h ≡ true
    → list_any (says_held c h) facts ≡ true
said_from_has facts c (Frame thread place) outside e =
    (and_parts (list_any (says_lives c) facts) (list_any (says_held c (Frame thread place)) facts) e).1
said_from_has facts c (Entry cell index) outside e = cc
said_from_has facts c (Queue thread cell) outside e =
    (and_parts (list_any (says_lives c) facts) (list_any (says_held c (Queue thread cell)) facts) e).1
said_from_has facts c (Popped thread cell) outside e =
    (and_parts (list_any (says_lives c) facts) (list_any (says_held c (Popped thread cell)) facts) e).1
said_from_has facts c (Hand thread cell) outside e =
    (and_parts (list_any (says_lives c) facts) (list_any (says_held c (Hand thread cell)) facts) e).1

-- one handover
Same-handed : (facts : List Fact) (x : Handover) → test_hand facts x ≡ true
    → Same (map_of (map (handed_fact x) facts)) (handed (map_of facts) x)
Same-handed facts x e =
    let may = MayHand-from_test facts x e in
    Same-replaced facts x.object x.«from» x.to (said_from_has facts x.object x.«from» may.outside may.held)

pub Same-hand_all : (facts : List Fact) (xs : List Handover) → test_hand_all facts xs ≡ true
    → Same (map_of (hand_all facts xs)) (all_handed (map_of facts) xs)
Same-hand_all facts [] e = Same-refl (map_of facts)
Same-hand_all facts (x ∷ xs) e =
    let next = map (handed_fact x) facts in
    let p = and_parts (test_hand facts x) (test_hand_all next xs) e in
    Same-trans (map_of (hand_all next xs)) (all_handed (map_of next) xs) (all_handed (handed (map_of facts) x) xs)
    (Same-hand_all next xs p.1) (all_handed-Same (map_of next) (handed (map_of facts) x) (Same-handed facts x p.0) xs)

pub MayAllBeHanded-from_test : (facts : List Fact) (xs : List Handover) → test_hand_all facts xs ≡ true
    → MayAllBeHanded (map_of facts) xs
MayAllBeHanded-from_test facts [] e = tt
MayAllBeHanded-from_test facts (x ∷ xs) e =
    let next = map (handed_fact x) facts in
    let p = and_parts (test_hand facts x) (test_hand_all next xs) e in (
      MayBeHanded-from_test facts x p.0,
      MayAllBeHanded-Same (map_of next) (handed (map_of facts) x) (Same-handed facts x p.0) xs
          (MayAllBeHanded-from_test next xs p.1),
    )

pub test-from_MayAllBeHanded : (facts : List Fact) (xs : List Handover) → MayAllBeHanded (map_of facts) xs
    → test_hand_all facts xs ≡ true
test-from_MayAllBeHanded facts [] may = refl
test-from_MayAllBeHanded facts (x ∷ xs) may =
    let next = map (handed_fact x) facts in
    let first = test-from_MayBeHanded facts x may.0 in
    and_from (test_hand facts x) (test_hand_all next xs) first
    (test-from_MayAllBeHanded next xs
    (MayAllBeHanded-Same (handed (map_of facts) x) (map_of next)
    (Same-sym (map_of next) (handed (map_of facts) x) (Same-handed facts x first)) xs may.1))
