-- Counting up an entry of the locked object: which cell it is, and that what is locked and found stays.
use Rattle.std.proofs.Common.{◌≡◌, ◌≢◌, ◌≤◌, ℕ, Bool, true, false, arith, inl, inr, List, [], ◌∷◌, length, Option, Some}
use Rattle.std.proofs.Common.{None, is_some, refl, sym, ◌∙◌, ap, subst, slice_get}
use Rattle.std.proofs.lemmas.Bool.{cases_lt}
use Rattle.brc_words.specs.declared.limits.TheConstants.{FIRST_MORTAL, MOST_ENTRIES}
use Rattle.brc_table.specs.law.declared.world.event.Source.{Source}
use Rattle.brc_table.specs.law.declared.world.event.Source.TheVariants as sources
use Rattle.brc_table.specs.law.declared.world.event.Step.TheVariants.{LocalUp, SharedUp}
use Rattle.brc_table.specs.law.world.Steps.{locked_cell, entry_of}
use Rattle.brc_table.specs.law.known.Items.{Part, part_by, meant}
use Rattle.brc_table.specs.law.known.Taken.{Blocks, listed_at, taken_by}
use Rattle.brc_table.specs.law.declared.rule.contents.Contents.TheVariants as contents
use Rattle.brc_table.specs.law.declared.rule.told.Moved.TheVariants.{Nothing}
use Rattle.brc_table.specs.law.declared.rule.told.LogItem.{LogItem}
use Rattle.brc_table.specs.law.declared.rule.told.LogItem.TheVariants.{Stepped}
use Rattle.brc_table.specs.law.rule.Logs.{entries_in}
use Rattle.brc_table.specs.law.rule.Seen.{part_seen, counts_seen, taken_seen, contents_locked}
use Rattle.brc_table.specs.law.steps.Taking.{AreCells}
use Rattle.brc_table.specs.Moving.{found_or, found_locked}
use Rattle.brc_table.specs.Seated.{TableSeen}
use Rattle.brc_count.specs.Frames.{place_seen, locked_place, lock_seen, HandleSeen, FrameSeen, CountsUp, GivenHandle}
use Rattle.brc_count.specs.Locking.{KnowsLock, KeepsLock}

not_both : {b : Bool} → b ≡ true → b ≡ false → ⊥
not_both is isnt = cc

some_of : (o : Option ℕ) → is_some o ≡ true → (c : ℕ) × (o ≡ Some c)
some_of None is = cc
some_of (Some c) is = (c, refl)

-- an entry of the locked object is a reference to its cell
pub entry_named : (n : ℕ) (log : List LogItem) (i k c : ℕ) → KnowsLock n log
    → slice_get (entries_in (found_locked log)) i ≡ Some c
    → meant (part_seen n log) (LocalUp (sources.Entry i) k) ≡ Some c
entry_named n log i k c lock entry =
    let (d, is) = some_of (lock_seen n log) lock.somewhere in
    ap (λ l. entry_of (part_seen n log).has l i) is ∙ ap (λ es. slice_get es i) (lock.has d is) ∙ entry

-- counting up is one step
data OneUp (source : Source) (k : ℕ) (before log : List LogItem) : Type 0 where
  OnLocal : (found : ℕ) → log ≡ Stepped (LocalUp source k) found Nothing ∷ before → OneUp source k before log
  OnShared : (found : ℕ) → log ≡ Stepped (SharedUp source k) found Nothing ∷ before → OneUp source k before log

one_up : {A : Type 0} (old new : FrameSeen A) (source : Source) (k c : ℕ) → CountsUp old new source k c
    → OneUp source k old.seat.log new.seat.log
one_up old new source k c up = elim (cases_lt c FIRST_MORTAL) [
  | inl low ↦ OnLocal (up.immortal low).found (up.immortal low).told
  | inr mortal ↦ elim (cases_lt 0 (counts_seen old.heap.cells old.seat.log c)) [
    | inl some ↦ elim (cases_lt (counts_seen old.heap.cells old.seat.log c) old.heap.local_limit) [
      | inl below ↦ OnLocal _ (up.own mortal (record { some_count = some; below = below }))
      | inr full ↦ let shared = up.shared mortal (λ here. absurd (omega (arith, here.below, full))) in
          OnShared shared.found shared.told
    ]
    | inr none ↦ let shared = up.shared mortal (λ here. absurd (omega (arith, here.some_count, none))) in
        OnShared shared.found shared.told
  ]
]

contents_stay : (source : Source) (k : ℕ) (before log : List LogItem) → OneUp source k before log
    → contents_locked log ≡ contents_locked before
contents_stay source k before log (OnLocal found told) = ap contents_locked told
contents_stay source k before log (OnShared found told) = ap contents_locked told

none_taken_local : (source : Source) (k found : ℕ) (o : Option ℕ) (blocks : Blocks)
    → taken_by (LocalUp source k) found [] o blocks ≡ blocks
none_taken_local source k found None blocks = refl
none_taken_local source k found (Some c) blocks = refl

none_taken_shared : (source : Source) (k found : ℕ) (o : Option ℕ) (blocks : Blocks)
    → taken_by (SharedUp source k) found [] o blocks ≡ blocks
none_taken_shared source k found None blocks = refl
none_taken_shared source k found (Some c) blocks = refl

blocks_stay : (n : ℕ) (source : Source) (k : ℕ) (before log : List LogItem) → OneUp source k before log
    → taken_seen n log ≡ taken_seen n before
blocks_stay n source k before log (OnLocal found told) = ap (taken_seen n) told
    ∙ none_taken_local source k found (meant (part_seen n before) (LocalUp source k)) (taken_seen n before)
blocks_stay n source k before log (OnShared found told) = ap (taken_seen n) told
    ∙ none_taken_shared source k found (meant (part_seen n before) (SharedUp source k)) (taken_seen n before)

same_has_local : (n : ℕ) (source : Source) (k found : ℕ) (part : Part) (o : Option ℕ)
    → (part_by n part (LocalUp source k) found [] o).has ≡ part.has
same_has_local n source k found part None = refl
same_has_local n source k found part (Some c) = refl

same_has_shared : (n : ℕ) (source : Source) (k found : ℕ) (part : Part) (o : Option ℕ)
    → (part_by n part (SharedUp source k) found [] o).has ≡ part.has
same_has_shared n source k found part None = refl
same_has_shared n source k found part (Some c) = refl

has_stays : (n : ℕ) (source : Source) (k : ℕ) (before log : List LogItem) → OneUp source k before log
    → (part_seen n log).has ≡ (part_seen n before).has
has_stays n source k before log (OnLocal found told) = ap (λ l. (part_seen n l).has) told
    ∙ same_has_local n source k found (part_seen n before) (meant (part_seen n before) (LocalUp source k))
has_stays n source k before log (OnShared found told) = ap (λ l. (part_seen n l).has) told
    ∙ same_has_shared n source k found (part_seen n before) (meant (part_seen n before) (SharedUp source k))

-- the locked place isn't the one that was vacant, so it has what it had
same_cell_locked : (n : ℕ) (before log : List LogItem) (k : ℕ) → locked_place n log ≡ locked_place n before
    → place_seen n before k ≡ None → ((j : ℕ) → j ≢ k → place_seen n log j ≡ place_seen n before j)
    → is_some (lock_seen n before) ≡ true → lock_seen n log ≡ lock_seen n before
same_cell_locked n before log k place vacant others there =
    ap (locked_cell (part_seen n log).frame) place ∙ same (locked_place n before) there
  where
    vacant_one : (j : ℕ) → is_some (place_seen n before j) ≡ true → j ≡ k → ⊥
    vacant_one j is same = not_both is (ap is_some (ap (place_seen n before) same ∙ vacant))

    same : (l : Option ℕ) → is_some (locked_cell (part_seen n before).frame l) ≡ true
        → locked_cell (part_seen n log).frame l ≡ locked_cell (part_seen n before).frame l
    same None is = refl
    same (Some j) is = others j (vacant_one j is)

-- what is locked and found stays
pub entry_up : {A : Type 0} (old new : FrameSeen A) (source : Source) (c : ℕ) (given : HandleSeen)
    → GivenHandle old new source c given
    → new.heap ≡ old.heap → KnowsLock old.heap.cells old.seat.log → KeepsLock old new
entry_up old new source c given all heap lock =
    let up = one_up old new source given.place c all.counted in
    let n = old.heap.cells in
    let cells : new.heap.cells ≡ n = ap (λ (h : TableSeen). h.cells) heap in
    let contents_same = contents_stay source given.place old.seat.log new.seat.log up in
    let blocks_same = blocks_stay n source given.place old.seat.log new.seat.log up in
    let found_same : found_locked new.seat.log ≡ found_locked old.seat.log =
    ap (found_or contents.Nothing) contents_same in
    let place : locked_place n new.seat.log ≡ locked_place n old.seat.log = ap (λ m. locked_place m new.seat.log)
    (sym cells) ∙ all.rest.lock in
    let others : (j : ℕ) → j ≢ given.place → place_seen n new.seat.log j ≡ place_seen n old.seat.log j =
    λ j other. ap (λ m. place_seen m new.seat.log j) (sym cells) ∙ all.others j other in
    let cell : lock_seen n new.seat.log ≡ lock_seen n old.seat.log = same_cell_locked n old.seat.log new.seat.log
    given.place place all.vacant others lock.somewhere in
    let knows : KnowsLock n new.seat.log = record {
      somewhere = ap is_some cell ∙ lock.somewhere;
      found = contents_same ∙ lock.found ∙ ap Some (sym found_same);
      has = λ d is. ap (λ has. has d) (has_stays n source given.place old.seat.log new.seat.log up)
          ∙ lock.has d (sym cell ∙ is) ∙ ap entries_in (sym found_same);
      cells = subst (λ f. AreCells n (entries_in f)) (sym found_same) lock.cells;
      few = subst (λ f. length (entries_in f) ≤ MOST_ENTRIES) (sym found_same) lock.few;
      unlisted = λ d is. ap (λ bs. listed_at bs d) blocks_same ∙ lock.unlisted d (sym cell ∙ is);
    } in
    record {
      locked = subst (λ m. KnowsLock m new.seat.log) (sym cells) knows;
      place = all.rest.lock;
      cell = ap (λ m. lock_seen m new.seat.log) cells ∙ cell;
      contents = contents_same;
    }
