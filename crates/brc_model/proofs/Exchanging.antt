-- Entries and places that change together, on lists of facts and on the maps that these spell.
use Rattle.std.proofs.Common.{◌≡◌, ℕ, ◌<◌, ◌≤◌, true, false, Some, List, [], ◌∷◌, ◌++◌, length, refl, ap, sym, ◌∙◌}
use Rattle.std.proofs.Common.{slice_get, slice_set, arith}
use Rattle.std.specs.Prelude.{◌||◌, nat_lt, if◌then◌else◌, remove}
use Rattle.std.specs.List.{list_any}
use Rattle.std.proofs.lemmas.List.Folds.{list_any-append}
use Rattle.std.proofs.lemmas.List.Elements.{filter_map-append}
use Rattle.std.proofs.lemmas.List.{append-nil}
use Rattle.std.proofs.lemmas.Bool.{eq-eqb, lt-ltb, le-ltb}
use Rattle.std.proofs.lemmas.Option.{slice_get_within}
use Rattle.brc_model.specs.declared.holder.Holder.{Holder}
use Rattle.brc_model.specs.declared.holder.Holder.TheVariants.{Frame, Entry, Queue, Popped, Hand}
use Rattle.brc_model.specs.declared.moves.Exchange.TheVariants.{Put, Take, Swap}
use Rattle.brc_model.specs.declared.fact.Fact.{Fact}
use Rattle.brc_model.specs.declared.fact.Fact.TheVariants.{Holds, Contains}
use Rattle.brc_model.specs.Holders.{Map, Same, put, with_holder, without_holder, placed, unplaced, exchanged, let_go}
use Rattle.brc_model.specs.Holders.{is_number}
use Rattle.brc_words.specs.declared.limits.TheConstants.{FIRST_MORTAL}
use Rattle.brc_model.specs.Facts.{says_lives, says_held, entry_in, entries_in, kind_said, map_of}
use Rattle.brc_model.specs.Tests.{IsEntryAt, test_last}
use Rattle.brc_model.specs.Edits.{without_hold, left, come}
use Rattle.brc_model.proofs.Filtering.{or-false, find-append_left}
use Rattle.brc_model.proofs.Splicing.{splice, slice_set-splice, take_last}
use Rattle.brc_model.proofs.Members.{is_number-true}
use Rattle.brc_model.proofs.Maps.{Same-refl, Same-trans, Same-with, Same-without}
use Rattle.brc_model.proofs.Steps.{by_cell, Same-held_more, Same-without_hold, Same-spliced}
use Rattle.brc_model.proofs.Entries.{entry_at}
use Rattle.brc_model.proofs.Allowing.{IsLastOfDead-from_test}

-- an entry more
Same-contains_more : (facts : List Fact) (c o : ℕ)
    → Same (map_of (facts ++ Contains c o ∷ []))
    (record (map_of facts) { entries = put (map_of facts).entries c (entries_in facts c ++ o ∷ []) })
Same-contains_more facts c o = record {
  live = λ d. list_any-append (says_lives d) facts (Contains c o ∷ []) ∙ or-false (list_any (says_lives d) facts);
  kind = λ d live. ap kind_said (find-append_left (says_lives d) facts (Contains c o ∷ []) refl);
  entries = λ d. filter_map-append (entry_in d) facts (Contains c o ∷ [])
      ∙ by_cell c d (λ t. entries_in facts d ++ entries_in (Contains c o ∷ []) d
      ≡ (if t then entries_in facts c ++ o ∷ [] else entries_in facts d))
      (λ e. rw (e, eq-eqb c c refl) refl)
      (λ e. rw e (append-nil (entries_in facts d)));
  held = λ d g. list_any-append (says_held d g) facts (Contains c o ∷ []) ∙ or-false (list_any (says_held d g) facts);
}

-- an entry less
Same-removed : (facts : List Fact) (c i place : ℕ) → IsEntryAt facts c i place
    → Same (map_of (remove facts place))
    (record (map_of facts) { entries = put (map_of facts).entries c (remove (entries_in facts c) i) })
Same-removed facts c i place there = Same-spliced facts c i place [] there (λ d. refl) (λ d e. refl)

-- a place in its stead
Same-taken : (facts : List Fact) (c i place o : ℕ) (h : Holder) → IsEntryAt facts c i place
    → Same (map_of (splice facts place (Holds o h ∷ []))) (record (map_of facts) {
      entries = put (map_of facts).entries c (remove (entries_in facts c) i);
      held = with_holder (map_of facts).held o h;
    })
Same-taken facts c i place o h there =
    let same = Same-spliced facts c i place (Holds o h ∷ []) there (λ d. refl) (λ d e. refl) in record {
      live = same.live;
      kind = same.kind;
      entries = same.entries;
      held = λ d g. same.held d g ∙ ap (λ t. t || list_any (says_held d g) facts)
          (or-false (says_held d g (Holds o h)));
    }

-- another entry in its stead
Same-set : (facts : List Fact) (c i place o : ℕ) → IsEntryAt facts c i place
    → Same (map_of (splice facts place (Contains c o ∷ [])))
    (record (map_of facts) { entries = put (map_of facts).entries c (slice_set (entries_in facts c) i o) })
Same-set facts c i place o there =
    let same = Same-spliced facts c i place (Contains c o ∷ []) there (λ d. refl) (λ d e. rw e refl) in
    let within = slice_get_within (entries_in facts c) i there.object (entry_at facts c i place there) in
    let own : entries_in (Contains c o ∷ []) c ≡ o ∷ [] = rw (eq-eqb c c refl) refl in
    let set : splice (entries_in facts c) i (entries_in (Contains c o ∷ []) c) ≡ slice_set (entries_in facts c) i o =
    rw own (sym (slice_set-splice (entries_in facts c) i o within)) in
    record {
      live = same.live;
      kind = same.kind;
      entries = λ d. same.entries d ∙ ap (λ v. put (entries_in facts) c v d) set;
      held = same.held;
    }

pub entry_missing : {P : Type 0} (xs : List ℕ) (n c : ℕ) → length xs ≤ n → is_number (slice_get xs n) c ≡ true → P
entry_missing xs n c short e =
    let within = slice_get_within xs n c (is_number-true (slice_get xs n) c e) in absurd (omega arith)

pub Same-cut : (facts : List Fact) (object c i place : ℕ) → test_last facts object c i ≡ true
    → IsEntryAt facts c i place
    → Same (map_of (remove facts place)) (let_go (map_of facts) object (Entry c i))
Same-cut facts object c i place e there =
    let same = Same-removed facts c i place there in
    let last = IsLastOfDead-from_test facts object c i e in
    record {
      live = same.live;
      kind = same.kind;
      entries = λ d. same.entries d
          ∙ ap (λ v. put (entries_in facts) c v d) (take_last (entries_in facts c) i last.last);
      held = same.held;
    }

pub Same-let_go : (facts : List Fact) (c : ℕ) (h : Holder) → ((cell index : ℕ) → h ≡ Entry cell index → ⊥)
    → Same (map_of (without_hold facts c h)) (let_go (map_of facts) c h)
Same-let_go facts c (Frame thread place) outside = Same-without_hold facts c (Frame thread place)
Same-let_go facts c (Entry cell index) outside = absurd (outside cell index refl)
Same-let_go facts c (Queue thread cell) outside = Same-without_hold facts c (Queue thread cell)
Same-let_go facts c (Popped thread cell) outside = Same-without_hold facts c (Popped thread cell)
Same-let_go facts c (Hand thread cell) outside = Same-without_hold facts c (Hand thread cell)

pub Same-take_immortal : (facts : List Fact) (c thread i to cell place : ℕ) → cell < FIRST_MORTAL
    → IsEntryAt facts c i place
    → Same (map_of (remove facts place)) (exchanged (map_of facts) c thread (Take i to cell))
Same-take_immortal facts c thread i to cell place low there = rw (lt-ltb cell FIRST_MORTAL low)
    (Same-removed facts c i place there)

-- within the list, a set is a splice
within_list : (facts : List Fact) (c i place : ℕ) → IsEntryAt facts c i place → place < length facts
within_list facts c i place there = fact_within facts place (Contains c there.object) there.stands
  where
    fact_within : (xs : List Fact) (n : ℕ) (f : Fact) → slice_get xs n ≡ Some f → n < length xs
    fact_within xs n f e = slice_get_within xs n f e

pub Same-take_mortal : (facts : List Fact) (c thread i to cell place : ℕ) → FIRST_MORTAL ≤ cell
    → IsEntryAt facts c i place
    → Same (map_of (slice_set facts place (Holds cell (Frame thread to))))
    (exchanged (map_of facts) c thread (Take i to cell))
Same-take_mortal facts c thread i to cell place high there =
    rw (
      slice_set-splice facts place (Holds cell (Frame thread to)) (within_list facts c i place there),
      le-ltb cell FIRST_MORTAL high,
    )
    (Same-taken facts c i place cell (Frame thread to) there)

Same-left : (facts : List Fact) (cell : ℕ) (frame : Holder)
    → Same (map_of (left facts cell frame)) (record (map_of facts) { held = unplaced (map_of facts).held cell frame })
Same-left facts cell frame = elim (nat_lt cell FIRST_MORTAL) as
    (λ t. Same (map_of (if t then facts else without_hold facts cell frame))
    (record (map_of facts) {
      held = if t then (map_of facts).held else without_holder (map_of facts).held cell
          frame;
    })) [
      | true ↦ Same-refl (map_of facts)
      | false ↦ Same-without_hold facts cell frame
    ]

Same-come : (facts : List Fact) (cell : ℕ) (frame : Holder)
    → Same (map_of (come facts cell frame)) (record (map_of facts) { held = placed (map_of facts).held cell frame })
Same-come facts cell frame = elim (nat_lt cell FIRST_MORTAL) as
    (λ t. Same (map_of (if t then facts else facts ++ Holds cell frame ∷ []))
    (record (map_of facts) { held = if t then (map_of facts).held else with_holder (map_of facts).held cell frame })) [
      | true ↦ Same-refl (map_of facts)
      | false ↦ Same-held_more facts cell frame
    ]

Same-unplaced : (a b : Map) (c : ℕ) (h : Holder) → Same a b → Same (record a { held = unplaced a.held c h })
    (record b { held = unplaced b.held c h })
Same-unplaced a b c h s = elim (nat_lt c FIRST_MORTAL) as
    (λ t. Same (record a { held = if t then a.held else without_holder a.held c h })
    (record b { held = if t then b.held else without_holder b.held c h })) [
      | true ↦ record { live = s.live; kind = s.kind; entries = s.entries; held = s.held }
      | false ↦ Same-without a b c h s
    ]

Same-placed : (a b : Map) (c : ℕ) (h : Holder) → Same a b → Same (record a { held = placed a.held c h })
    (record b { held = placed b.held c h })
Same-placed a b c h s = elim (nat_lt c FIRST_MORTAL) as
    (λ t. Same (record a { held = if t then a.held else with_holder a.held c h })
    (record b { held = if t then b.held else with_holder b.held c h })) [
      | true ↦ record { live = s.live; kind = s.kind; entries = s.entries; held = s.held }
      | false ↦ Same-with a b c h s
    ]

pub Same-put : (facts : List Fact) (c thread place cell : ℕ)
    → Same (map_of (left (facts ++ Contains c cell ∷ []) cell (Frame thread place)))
    (exchanged (map_of facts) c thread (Put place cell))
Same-put facts c thread place cell =
    let more = facts ++ Contains c cell ∷ [] in
    let frame = Frame thread place in
    let b = record (map_of facts) { entries = put (map_of facts).entries c (entries_in facts c ++ cell ∷ []) } in
    Same-trans (map_of (left more cell frame)) (record (map_of more) { held = unplaced (map_of more).held cell frame })
    (record b { held = unplaced b.held cell frame })
    (Same-left more cell frame)
    (Same-unplaced (map_of more) b cell frame (Same-contains_more facts c cell))

pub Same-swap : (facts : List Fact) (c thread i at cell old place : ℕ) → IsEntryAt facts c i place
    → Same (map_of (come (left (slice_set facts place (Contains c cell)) cell (Frame thread at)) old (Frame thread at)))
    (exchanged (map_of facts) c thread (Swap i at cell old))
Same-swap facts c thread i at cell old place there =
    let frame = Frame thread at in
    let new = slice_set facts place (Contains c cell) in
    let a = record (map_of facts) { entries = put (map_of facts).entries c (slice_set (entries_in facts c) i cell) } in
    let b = record a { held = unplaced a.held cell frame } in
    let set : Same (map_of new) a =
    rw (slice_set-splice facts place (Contains c cell) (within_list facts c i place there))
    (Same-set facts c i place cell there) in
    let gone : Same (map_of (left new cell frame)) b =
    Same-trans (map_of (left new cell frame)) (record (map_of new) { held = unplaced (map_of new).held cell frame }) b
    (Same-left new cell frame) (Same-unplaced (map_of new) a cell frame set) in
    Same-trans (map_of (come (left new cell frame) old frame))
    (record (map_of (left new cell frame)) { held = placed (map_of (left new cell frame)).held old frame })
    (record b { held = placed b.held old frame })
    (Same-come (left new cell frame) old frame)
    (Same-placed (map_of (left new cell frame)) b old frame gone)
