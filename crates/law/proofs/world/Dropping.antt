-- A place or an entry lets its cell go; and what a source names is held.
use Rattle.std.proofs.Common.{◌≡◌, ℕ, ◌-◌, ◌<◌, ◌≤◌, Bool, true, false, if◌then◌else◌, [], length, get_or, set}
use Rattle.std.proofs.Common.{slice_get, Option, Some, None, refl, sym, ◌∙◌, ap, inl, inr, arith}
use Rattle.std.proofs.lemmas.List.{length-set, get_or_past, length-take}
use Rattle.std.proofs.lemmas.List.Sums.{sum_by-set}
use Rattle.std.proofs.lemmas.Bool.{cases_eq, cases_lt, eq-eqb, ltb-true}
use Rattle.brc_words.specs.declared.limits.TheConstants.{FIRST_MORTAL}
use Rattle.law.specs.declared.world.event.Source.{Source}
use Rattle.law.specs.declared.world.event.Source.TheVariants as sources
use Rattle.law.specs.declared.world.event.Dropped.{Dropped}
use Rattle.law.specs.declared.world.event.Dropped.TheVariants as dropped
use Rattle.law.specs.declared.world.row.Hand.TheVariants as hands
use Rattle.law.specs.world.Lists.{one, times, entry_times, is_marked, place_at, last_of, front_of}
use Rattle.law.specs.world.Heap.{Heap, entries_at, row_at, frame_at, worklist_at, is_immortal}
use Rattle.law.specs.world.Steps.{source_cell, locked_cell, entry_of, dropped_cell, frame_without, entries_without}
use Rattle.law.specs.world.Sound.{IsSound, held}
use Rattle.law.proofs.world.Naming.{sum_one}
use Rattle.law.proofs.world.Framing.{place_is_held, entry_is_held, place_at-vacated_else, times-vacated, length-vacated}
use Rattle.law.proofs.world.Framing.{entry_times-front}
use Rattle.law.proofs.world.Changes.{Fewer, same_entries, read_by}
use Rattle.law.proofs.world.Counting.{Downs}
use Rattle.law.proofs.world.Turning.{Acts}

-- ---- what a source names is held

pub held_by_place : (h : Heap) (t k c : ℕ) → place_at (frame_at h t) k ≡ Some c → 1 ≤ held h c
held_by_place h t k c there = omega (
  arith,
  place_is_held c (frame_at h t) k c there,
  ap one (eq-eqb c c refl),
  sum_one (times c) h.frames t [] refl,
)

pub held_by_entry : (h : Heap) (d i c : ℕ) → slice_get (entries_at h d) i ≡ Some c → 1 ≤ held h c
held_by_entry h d i c there = omega (
  arith,
  entry_is_held c (entries_at h d) i c there,
  ap one (eq-eqb c c refl),
  sum_one (entry_times c) h.entries d [] refl,
)

entry_source : (h : Heap) (o : Option ℕ) (i c : ℕ) → entry_of (entries_at h) o i ≡ Some c → 1 ≤ held h c
entry_source h None i c named = absurd (cc)
entry_source h (Some d) i c named = held_by_entry h d i c named

immortal_source : (d c : ℕ) (b : Bool) → (if b then Some d else None) ≡ Some c → (b ≡ true) × (d ≡ c)
immortal_source d c true named = (refl, cc)
immortal_source d c false named = absurd (cc)

pub source_held : (h : Heap) (t c : ℕ) (source : Source) → source_cell (row_at h t) (frame_at h t) (entries_at h) source
    ≡ Some c → FIRST_MORTAL ≤ c → 1 ≤ held h c
source_held h t c (sources.Frame k) named mortal = held_by_place h t k c named
source_held h t c (sources.Entry i) named mortal =
    entry_source h (locked_cell (frame_at h t) (row_at h t).locked) i c named
source_held h t c (sources.Immortal d) named mortal =
    let parts = immortal_source d c (is_immortal d) named in
    absurd (omega (arith, ltb-true d FIRST_MORTAL parts.0, parts.1, mortal))

-- ---- what a release gives up

pub work_source : (o : Option ℕ) (b : Bool) (c : ℕ) → (if b then o else None) ≡ Some c → o ≡ Some c
work_source o true c named = named
work_source o false c named = absurd (cc)

pub dropped_held : (h : Heap) (t c : ℕ) (drop : Dropped) → dropped_cell (frame_at h t) (worklist_at h t)
    (entries_at h) drop ≡ Some c → 1 ≤ held h c
dropped_held h t c (dropped.Frame k) named = held_by_place h t k c named
dropped_held h t c (dropped.Work d) named =
    held_by_entry h d _ c (work_source _ (is_marked (worklist_at h t) d) c named)

-- the last entry goes: no list grows
front_fewer : (h : Heap) (d q : ℕ) → d < length h.entries
    → Fewer (entries_at h q) (get_or (set h.entries d (front_of (entries_at h d))) q [])
front_fewer h d q inside = read_by (λ j xs. Fewer (entries_at h j) xs) h.entries d (front_of (entries_at h d)) [] inside
    (record {
      empty = λ e. ap front_of e;
      few = omega (arith, length-take (length (entries_at h d) - 1) (entries_at h d));
    })
    (λ j _. same_entries (entries_at h j)) q

pub drop_downs : (h : Heap) (t c : ℕ) (drop : Dropped) → IsSound h → Acts h t → c < length h.cells
    → (row_at h t).hand ≡ hands.Free
    → dropped_cell (frame_at h t) (worklist_at h t) (entries_at h) drop ≡ Some c
    → Downs h t c (frame_without (Some drop) (frame_at h t)) (entries_without (Some drop) h.entries)
drop_downs h t c (dropped.Frame k) sound acts cell_inside free named = record {
  thread = acts.thread;
  inside = acts.inside;
  cell_inside = cell_inside;
  unlocked = acts.unlocked;
  here = acts.here;
  hand = free;
  let_go = λ q. omega (arith, times-vacated q (frame_at h t) k c named);
  vacant = λ j none. elim (cases_eq j k) [
    | inl same ↦ absurd (let e : None ≡ Some c = sym none ∙ ap (place_at (frame_at h t)) same ∙ named in cc)
    | inr other ↦ place_at-vacated_else (frame_at h t) k j other ∙ none
  ];
  places = length-vacated (frame_at h t) k (sound.threads t).places;
  lists = refl;
  fewer = λ q. same_entries (entries_at h q);
}
drop_downs h t c (dropped.Work d) sound acts cell_inside free named =
    let last : last_of (entries_at h d) ≡ Some c = work_source _ (is_marked (worklist_at h t) d) c named in
    let inside : d < length h.entries = elim (cases_lt d (length h.entries)) [
      | inl within ↦ within
      | inr past ↦ absurd (let e : None ≡ Some c = sym (ap last_of (get_or_past h.entries d [] past)) ∙ last in cc)
    ] in
    record {
      thread = acts.thread;
      inside = acts.inside;
      cell_inside = cell_inside;
      unlocked = acts.unlocked;
      here = acts.here;
      hand = free;
      let_go = λ q. omega (
        arith,
        sum_by-set (entry_times q) h.entries d (front_of (entries_at h d)) [] inside,
        entry_times-front q (entries_at h d) c last,
      );
      vacant = λ j none. none;
      places = (sound.threads t).places;
      lists = length-set h.entries d _;
      fewer = λ q. front_fewer h d q inside;
    }
