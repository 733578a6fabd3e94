-- What each change of the list of facts makes of the map.
use Rattle.std.proofs.Common.{◌≡◌, ℕ, ◌∙◌, Bool, true, false, cond, None, List, [], ◌∷◌, ◌++◌, refl, ap, sym, arith}
use Rattle.std.proofs.Common.{map}
use Rattle.std.specs.Prelude.{◌==◌, ◌&&◌, ◌||◌, not, if◌then◌else◌}
use Rattle.std.specs.List.{list_any, find, filter, filter_map}
use Rattle.std.proofs.lemmas.List.Folds.{list_any-append}
use Rattle.std.proofs.lemmas.List.Elements.{filter_map-append}
use Rattle.std.proofs.lemmas.List.{append-nil}
use Rattle.std.proofs.lemmas.Bool.{eqb-true, and_parts, not-true, not-false}
use Rattle.std.proofs.lemmas.Bool.Decides.{nat_tests}
use Rattle.brc_words.specs.declared.kind.Kind.{Kind}
use Rattle.brc_model.specs.declared.holder.Holder.{Holder}
use Rattle.brc_model.specs.declared.fact.Fact.{Fact}
use Rattle.brc_model.specs.declared.fact.Fact.TheVariants.{Lives, Holds, Contains}
use Rattle.brc_model.specs.Holders.{Same, put, with_holder, without_holder, same_holder, holder_code}
use Rattle.brc_model.specs.Facts.{says_lives, says_held, entry_in, entries_in, kind_said, map_of}
use Rattle.brc_model.specs.Tests.{IsEntryAt}
use Rattle.brc_model.specs.Edits.{is_about, begun, ended, without_hold, replaced}
use Rattle.brc_model.proofs.Replacing.{says_held-true}
use Rattle.brc_model.proofs.Entries.{entry_in_own}
use Rattle.brc_model.proofs.Filtering.{list_any-filter, find-filter, filter_map-filter, filter_map-filter_none}
use Rattle.brc_model.proofs.Filtering.{find-append_left, find-append_right, and-false, or-false, or-comm}
use Rattle.brc_model.proofs.Filtering.{list_any-map_same, find-map_same, filter_map-map_same}
use Rattle.brc_model.proofs.Splicing.{splice, list_any-splice, find-splice, filter_map-splice_other, filter_map-splice}

eq-comm : (a b : ℕ) → (a == b) ≡ (b == a)
eq-comm a b = grind (arith, nat_tests)

same_holder-comm : (g h : Holder) → same_holder g h ≡ same_holder h g
same_holder-comm g h =
    let x = holder_code g in let y = holder_code h in
    rw (eq-comm x.0 y.0, eq-comm x.1 y.1, eq-comm x.2 y.2) refl

-- what is true of a cell that is the one, and of each other cell
pub by_cell : (c d : ℕ) (P : Bool → Type 0) → (d ≡ c → P true) → ((d == c) ≡ false → P false) → P (d == c)
by_cell c d P here other =
    elim (d == c) as (λ t. (d == c) ≡ t → P t) [ true ↦ (λ e. here (eqb-true d c e)) | false ↦ other ] refl

-- a place that is said beside others
pub Same-held_more : (facts : List Fact) (c : ℕ) (h : Holder)
    → Same (map_of (facts ++ Holds c h ∷ [])) (record (map_of facts) { held = with_holder (map_of facts).held c h })
Same-held_more facts c h = record {
  live = λ d. list_any-append (says_lives d) facts (Holds c h ∷ []) ∙ or-false (list_any (says_lives d) facts);
  kind = λ d live. ap kind_said (find-append_left (says_lives d) facts (Holds c h ∷ []) refl);
  entries = λ d. filter_map-append (entry_in d) facts (Holds c h ∷ []) ∙ append-nil (entries_in facts d);
  held = λ d g. list_any-append (says_held d g) facts (Holds c h ∷ [])
      ∙ ap (λ t. list_any (says_held d g) facts || t) (or-false (says_held d g (Holds c h)))
      ∙ or-comm (list_any (says_held d g) facts) (says_held d g (Holds c h));
}

keeps_entries : (c d : ℕ) (h : Holder) (f : Fact) → not (says_held c h f) ≡ false → entry_in d f ≡ None
keeps_entries c d h (Lives object kind) e = refl
keeps_entries c d h (Holds object holder) e = refl
keeps_entries c d h (Contains cell object) e = cc

keeps_lives : (c d : ℕ) (h : Holder) (f : Fact) → says_lives d f ≡ true → not (says_held c h f) ≡ true
keeps_lives c d h (Lives object kind) e = refl
keeps_lives c d h (Holds object holder) e = cc
keeps_lives c d h (Contains cell object) e = cc

drops_held : (c d : ℕ) (h g : Holder) (f : Fact) → says_held d g f ≡ true
    → not (says_held c h f) ≡ not ((d == c) && same_holder g h)
drops_held c d h g f e = rw (says_held-true d g f e, eq-comm d c, same_holder-comm g h) refl

-- a place that no fact says any more
pub Same-without_hold : (facts : List Fact) (c : ℕ) (h : Holder)
    → Same (map_of (without_hold facts c h)) (record (map_of facts) { held = without_holder (map_of facts).held c h })
Same-without_hold facts c h = record {
  live = λ d. list_any-filter (says_lives d) (λ f. not (says_held c h f)) true (keeps_lives c d h) facts;
  kind = λ d live. ap kind_said (find-filter (says_lives d) (λ f. not (says_held c h f)) (keeps_lives c d h) facts);
  entries = λ d. filter_map-filter (entry_in d) (λ f. not (says_held c h f)) (keeps_entries c d h) facts;
  held = λ d g. list_any-filter (says_held d g) (λ f. not (says_held c h f)) (not ((d == c) && same_holder g h))
      (drops_held c d h g) facts;
}

ends_lives : (c d : ℕ) (f : Fact) → says_lives d f ≡ true → not (says_lives c f) ≡ not (d == c)
ends_lives c d (Lives object kind) e = let i : d ≡ object = eqb-true d object e in rw (← i, eq-comm c d) refl
ends_lives c d (Holds object holder) e = cc
ends_lives c d (Contains cell object) e = cc

ends_no_held : (c d : ℕ) (g : Holder) (f : Fact) → says_held d g f ≡ true → not (says_lives c f) ≡ true
ends_no_held c d g (Lives object kind) e = cc
ends_no_held c d g (Holds object holder) e = refl
ends_no_held c d g (Contains cell object) e = refl

ends_no_entry : (c d : ℕ) (f : Fact) → not (says_lives c f) ≡ false → entry_in d f ≡ None
ends_no_entry c d (Lives object kind) e = refl
ends_no_entry c d (Holds object holder) e = refl
ends_no_entry c d (Contains cell object) e = cc

not-and : (t l : Bool) → (not t && l) ≡ (if t then false else l)
not-and true l = refl
not-and false l = refl

-- an object that no fact says to live
pub Same-ended : (facts : List Fact) (c : ℕ)
    → Same (map_of (ended facts c)) (record (map_of facts) { live = put (map_of facts).live c false })
Same-ended facts c = record {
  live = λ d. list_any-filter (says_lives d) (λ f. not (says_lives c f)) (not (d == c)) (ends_lives c d) facts
      ∙ not-and (d == c) (list_any (says_lives d) facts);
  kind = λ d live.
      let other = and_parts (not (d == c)) (list_any (says_lives d) facts)
      (sym (list_any-filter (says_lives d) (λ f. not (says_lives c f)) (not (d == c)) (ends_lives c d) facts) ∙ live) in
      ap kind_said (find-filter (says_lives d) (λ f. not (says_lives c f)) (λ f e. ends_lives c d f e ∙ other.0) facts);
  entries = λ d. filter_map-filter (entry_in d) (λ f. not (says_lives c f)) (ends_no_entry c d) facts;
  held = λ d g. list_any-filter (says_held d g) (λ f. not (says_lives c f)) true (ends_no_held c d g) facts;
}

begins_lives : (c d : ℕ) (f : Fact) → says_lives d f ≡ true → not (is_about c f) ≡ not (d == c)
begins_lives c d (Lives object kind) e = let i : d ≡ object = eqb-true d object e in rw (← i, eq-comm c d) refl
begins_lives c d (Holds object holder) e = cc
begins_lives c d (Contains cell object) e = cc

begins_held : (c d : ℕ) (g : Holder) (f : Fact) → says_held d g f ≡ true → not (is_about c f) ≡ not (d == c)
begins_held c d g f e = rw (says_held-true d g f e, eq-comm c d) refl

-- a fact that stays gives no entry of the cell, and one that goes none of another cell
begins_entry : (c : ℕ) (f : Fact) → not (is_about c f) ≡ true → entry_in c f ≡ None
begins_entry c (Lives object kind) e = refl
begins_entry c (Holds object holder) e = refl
begins_entry c (Contains cell object) e = rw (not-true (c == cell) e) refl

begins_other : (c d : ℕ) → (d == c) ≡ false → (f : Fact) → not (is_about c f) ≡ false → entry_in d f ≡ None
begins_other c d other (Lives object kind) e = refl
begins_other c d other (Holds object holder) e = refl
begins_other c d other (Contains cell object) e =
    let i : c ≡ cell = eqb-true c cell (not-false (c == cell) e) in rw (← i, other) refl

-- an object that begins
pub Same-begun : (facts : List Fact) (c : ℕ) (k : Kind) (h : Holder)
    → Same (map_of (begun facts c k h)) (record {
      live = put (map_of facts).live c true;
      kind = put (map_of facts).kind c k;
      entries = put (map_of facts).entries c [];
      held = with_holder (put (map_of facts).held c (λ _. false)) c h;
    })
Same-begun facts c k h =
    let old = filter (λ f. not (is_about c f)) facts in
    let new = Lives c k ∷ Holds c h ∷ [] in
    let lives = λ (d : ℕ). list_any-filter (says_lives d) (λ f. not (is_about c f)) (not (d == c))
    (begins_lives c d) facts in
    record {
      live = λ d. list_any-append (says_lives d) old new ∙ ap (λ t. t || list_any (says_lives d) new) (lives d)
          ∙ live_bool (d == c) (list_any (says_lives d) facts);
      kind = λ d live.
          elim (d == c) as (λ t. (d == c) ≡ t → kind_said (find (says_lives d) (old ++ new))
          ≡ (if t then k else kind_said (find (says_lives d) facts))) [
            | true ↦ (λ e. rw (
              find-append_right (says_lives d) old new
                  (lives d ∙ ap (λ t. not t && list_any (says_lives d) facts) e),
              e,
            ) refl)
            | false ↦ (λ e. rw (find-append_left (says_lives d) old new (rw e refl))
                (ap kind_said (find-filter (says_lives d) (λ f. not (is_about c f)) (λ f s. begins_lives c d f s
                ∙ ap not e) facts)))
          ] refl;
      entries = λ d. filter_map-append (entry_in d) old new ∙ append-nil (filter_map (entry_in d) old)
          ∙ by_cell c d (λ t. filter_map (entry_in d) old ≡ (if t then [] else entries_in facts d))
          (λ e. rw e (filter_map-filter_none (entry_in c) (λ f. not (is_about c f)) (begins_entry c) facts))
          (λ e. filter_map-filter (entry_in d) (λ f. not (is_about c f)) (begins_other c d e) facts);
      held = λ d g. list_any-append (says_held d g) old new
          ∙ ap (λ t. t || list_any (says_held d g) new) (list_any-filter (says_held d g) (λ f. not (is_about c f))
          (not (d == c)) (begins_held c d g) facts)
          ∙ held_bool (d == c) (same_holder g h) (λ q. list_any (says_held d q) facts) g;
    }
  where
    live_bool : (t l : Bool) → ((not t && l) || (t || (false || false))) ≡ (if t then true else l)
    live_bool true l = refl
    live_bool false l = or-false l

    held_bool : (t s : Bool) (held : Holder → Bool) (g : Holder)
        → ((not t && held g) || (false || ((t && s) || false))) ≡ ((t && s) || (if t then (λ _. false) else held) g)
    held_bool true s held g = refl
    held_bool false s held g = or-false (held g)

-- an entry's fact that gives way to others, none of which speaks of a life or of another cell's entries
pub Same-spliced : (facts : List Fact) (c i place : ℕ) (ys : List Fact) (there : IsEntryAt facts c i place)
    → ((d : ℕ) → list_any (says_lives d) ys ≡ false) → ((d : ℕ) → (d == c) ≡ false → entries_in ys d ≡ [])
    → Same (map_of (splice facts place ys)) (record (map_of facts) {
      entries = put (map_of facts).entries c (splice (entries_in facts c) i (entries_in ys c));
      held = λ d g. list_any (says_held d g) ys || list_any (says_held d g) facts;
    })
Same-spliced facts c i place ys there lifeless own = record {
  live = λ d. list_any-splice (says_lives d) facts place ys (Contains c there.object) there.stands refl
      ∙ ap (λ t. t || list_any (says_lives d) facts) (lifeless d);
  kind = λ d live. ap kind_said (find-splice (says_lives d) facts place ys (Contains c there.object) there.stands refl
      (lifeless d));
  entries = λ d. by_cell c d
      (λ t. entries_in (splice facts place ys) d
      ≡ (if t then splice (entries_in facts c) i (entries_in ys c) else entries_in facts d))
      (λ e. rw (e, ← there.before) (filter_map-splice (entry_in c) facts place ys (Contains c there.object) there.object
      there.stands (entry_in_own c there.object)))
      (λ e. filter_map-splice_other (entry_in d) facts place ys (Contains c there.object) there.stands (rw e refl)
      (own d e));
  held = λ d g. list_any-splice (says_held d g) facts place ys (Contains c there.object) there.stands refl;
}

-- one place in place of another, where what the one says of the object is said
bool_replace : (t said a n b l : Bool) → (said ≡ true → t ≡ b)
    → (cond t n said || ((a && n) || (not b && l))) ≡ (((t || a) && n) || (not b && (said || l)))
bool_replace true said a true b l h = refl
bool_replace true true true false true l h = refl
bool_replace true true false false true l h = refl
bool_replace true true a false false l h = let wrong = h refl in cc
bool_replace true false true false b l h = refl
bool_replace true false false false b l h = refl
bool_replace false true a n true l h = let wrong = h refl in cc
bool_replace false true true true false l h = refl
bool_replace false true true false false l h = refl
bool_replace false true false n false l h = refl
bool_replace false false a n b l h = refl

says_one : (c d : ℕ) (g h : Holder) (f : Fact) → says_held d g f ≡ true
    → says_held c h f ≡ ((d == c) && same_holder g h)
says_one c d g h f e = rw (says_held-true d g f e, eq-comm d c, same_holder-comm g h) refl

list_any-replaced : (facts : List Fact) (c : ℕ) (g h : Holder) (d : ℕ) (q : Holder)
    → list_any (says_held d q) (map (replaced c g h) facts)
    ≡ ((list_any (says_held c g) facts && says_held d q (Holds c h)) ||
    (not ((d == c) && same_holder q g) && list_any (says_held d q) facts))
list_any-replaced [] c g h d q = sym (and-false (not ((d == c) && same_holder q g)))
list_any-replaced (f ∷ fs) c g h d q =
    rw (list_any-replaced fs c g h d q)
    (ap (λ t. t || ((list_any (says_held c g) fs && says_held d q (Holds c h)) ||
    (not ((d == c) && same_holder q g) && list_any (says_held d q) fs))) (through (says_held c g f))
    ∙ bool_replace (says_held c g f) (says_held d q f) (list_any (says_held c g) fs) (says_held d q (Holds c h))
    ((d == c) && same_holder q g) (list_any (says_held d q) fs) (says_one c d q g f))
  where
    through : (t : Bool) → says_held d q (cond t (Holds c h) f) ≡ cond t (says_held d q (Holds c h)) (says_held d q f)
    through true = refl
    through false = refl

replaced_lives : (c d : ℕ) (g h : Holder) (f : Fact) → says_lives d (replaced c g h f) ≡ says_lives d f
replaced_lives c d g h (Lives object kind) = refl
replaced_lives c d g h (Holds object holder) =
    elim (says_held c g (Holds object holder)) as (λ t. says_lives d (cond t (Holds c h) (Holds object holder)) ≡ false)
    [ true ↦ refl | false ↦ refl ]
replaced_lives c d g h (Contains cell object) = refl

replaced_life : (c d : ℕ) (g h : Holder) (f : Fact) → says_lives d f ≡ true → replaced c g h f ≡ f
replaced_life c d g h (Lives object kind) e = refl
replaced_life c d g h (Holds object holder) e = cc
replaced_life c d g h (Contains cell object) e = cc

replaced_entry : (c d : ℕ) (g h : Holder) (f : Fact) → entry_in d (replaced c g h f) ≡ entry_in d f
replaced_entry c d g h (Lives object kind) = refl
replaced_entry c d g h (Holds object holder) =
    elim (says_held c g (Holds object holder)) as (λ t. entry_in d (cond t (Holds c h) (Holds object holder)) ≡ None)
    [ true ↦ refl | false ↦ refl ]
replaced_entry c d g h (Contains cell object) = refl

-- one holder of an object in place of another that it has
pub Same-replaced : (facts : List Fact) (c : ℕ) (g h : Holder) → list_any (says_held c g) facts ≡ true
    → Same (map_of (map (replaced c g h) facts))
    (record (map_of facts) { held = with_holder (without_holder (map_of facts).held c g) c h })
Same-replaced facts c g h held = record {
  live = λ d. list_any-map_same (says_lives d) (replaced c g h) (replaced_lives c d g h) facts;
  kind = λ d live. ap kind_said (find-map_same (says_lives d) (replaced c g h) (replaced_lives c d g h)
      (replaced_life c d g h) facts);
  entries = λ d. filter_map-map_same (entry_in d) (replaced c g h) (replaced_entry c d g h) facts;
  held = λ d q. list_any-replaced facts c g h d q
      ∙ ap (λ t. (t && says_held d q (Holds c h)) ||
      (not ((d == c) && same_holder q g) && list_any (says_held d q) facts)) held;
}
