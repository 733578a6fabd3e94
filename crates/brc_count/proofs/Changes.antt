-- What one call of the counter makes of what a frame keeps.
use Rattle.std.proofs.Common.{◌≡◌, not, ◌==◌, ◌+◌, ℕ, ◌<◌, ◌≤◌, ◌-◌, Bool, true, false, length, arith, inl, inr, List}
use Rattle.std.proofs.Common.{[], ◌∷◌, map, Option, Some, None, IfSome, IsTrue, is_some, if◌then◌else◌, ◌++◌, set, refl}
use Rattle.std.proofs.Common.{sym, ◌∙◌, ap, subst, replicate}
use Rattle.std.proofs.lemmas.Bool.{eq-eqb, cases_eq, cases_lt, lt-ltb}
use Rattle.std.proofs.lemmas.List.{length-set, get_or-set_same, get_or_past, get_or-replicate, length-replicate}
use Rattle.std.specs.Int.{bit_at}
use Rattle.brc_table.specs.law.declared.world.event.Step.TheVariants.{Register}
use Rattle.brc_table.specs.law.declared.rule.told.Moved.TheVariants.{Nothing}
use Rattle.brc_table.specs.law.declared.rule.told.LogItem.{LogItem}
use Rattle.brc_table.specs.law.declared.rule.told.LogItem.TheVariants.{Stepped}
use Rattle.brc_count.specs.Closing.{IsFirst, FirstNew, FirstAgain}
use Rattle.brc_table.specs.law.world.Heap.{words_for}
use Rattle.std.proofs.lemmas.Nat.Bits.{bit_at-zero}
use Rattle.brc_count.specs.Places.{PlacesSeen, held_at, Updates, cell_held}
use Rattle.brc_words.specs.declared.limits.TheConstants.{MOST_PLACES}
use Rattle.atomic_table.specs.Table.{rest}
use Rattle.brc_table.specs.block.declared.payload.Payload.{Payload}
use Rattle.brc_table.specs.block.Payload.{entries_of}
use Rattle.brc_table.specs.block.Blocks.{PopsEntry}
use Rattle.brc_table.specs.law.declared.world.event.Dropped.TheVariants as drops
use Rattle.brc_table.specs.law.declared.world.event.Source.{Source}
use Rattle.brc_table.specs.law.declared.world.event.Step.{Step}
use Rattle.brc_table.specs.law.declared.world.event.Step.TheVariants.{LocalUp, Free}
use Rattle.brc_table.specs.law.declared.world.row.Hand.TheVariants as hands
use Rattle.brc_table.specs.law.declared.world.row.Stage.{Stage}
use Rattle.brc_table.specs.law.declared.world.row.Stage.TheVariants as stages
use Rattle.brc_table.specs.law.world.Lists.{used_words, names, place_at, filled, vacated, front_of, last_of, is_marked, word_at}
use Rattle.brc_table.specs.law.world.Steps.{is_active, stage_ok, lock_ok, locked_cell}
use Rattle.brc_table.proofs.law.world.Bitwise.{blank_word}
use Rattle.std.proofs.lemmas.List.Folds.{sum_by-replicate}
use Rattle.brc_table.proofs.law.world.Framing.{place_at-filled_here, place_at-filled_else, place_at-vacated_else}
use Rattle.brc_table.specs.law.known.Items.{Part, meant, put}
use Rattle.brc_table.specs.law.known.Going_On.{filling, giving_back}
use Rattle.brc_table.specs.law.known.Taken.{Blocks, listed_at, cut, off, taken_on}
use Rattle.brc_table.specs.law.rule.Seen.{part_seen, risen_seen, taken_seen, contents_locked}
use Rattle.brc_table.specs.law.rule.Logs.{entries_in}
use Rattle.brc_table.specs.law.steps.Owing.{MayCarry}
use Rattle.brc_table.specs.law.steps.Taking.{AreCells}
use Rattle.brc_table.specs.Knowing.{known_seen, entries_of as entries_answered, KeepsNotes}
use Rattle.brc_table.specs.Moving.{is_there, out_with, found_or}
use Rattle.brc_table.specs.Shown.{contents_of}
use Rattle.brc_table.specs.Seated.{TableSeen, SeatSeen, IsSameSeat, Continues}
use Rattle.brc_biased.specs.Standing.{MayDrop, FillsNoPlace, may_give_up, released, MayCountDown}
use Rattle.brc_biased.specs.Released.{IsTakenBlock}
use Rattle.brc_biased.specs.Up.{KnowsPart, Raising}
use Rattle.brc_biased.proofs.Marking.{marks_wide}
use Rattle.brc_count.specs.declared.held.PlaceEntry.{PlaceEntry}
use Rattle.brc_count.specs.declared.ledger.Ledger.{Ledger}
use Rattle.brc_table.specs.law.declared.rule.contents.Contents.TheVariants as contents
use Rattle.brc_count.specs.Frames.{place_seen, locked_place, lock_seen, block_listed, slot_out, slots_out}
use Rattle.brc_count.specs.Frames.{pushed, Buried, Holding, FrameSeen, KeepsHandles, Turned, Turns, OneMore}
use Rattle.brc_count.proofs.Buried.{listed_here, unlisted_front, nothing_buried, after_cut, after_free, after_given}
use Rattle.brc_count.proofs.Buried.{front_cut, front_off, contents_have, front_put, last_put, cells_front, cells_last}

vacated_here : (frame : List (Option ℕ)) (k : ℕ) → place_at (vacated frame k) k ≡ None
vacated_here frame k = elim (cases_lt k (length frame)) [
  | inl inside ↦ get_or-set_same frame k None None inside
  | inr past ↦ get_or_past (vacated frame k) k None (omega (arith, past, length-set frame k None))
]

same_held : {a b : PlaceEntry} → Some a ≡ Some b → a ≡ b
same_held same = cc

pub same_cell : {c d : ℕ} → Some c ≡ Some d → c ≡ d
same_cell same = cc

not_there : {X : Type 0} (o : Option X) → is_some o ≡ true → o ≡ None → ⊥
not_there None there none = cc
not_there (Some x) there none = cc

none_at : (m k : ℕ) → ◌≡◌ {A = ℕ} (word_at (replicate m 0) k) 0
none_at m k = blank_word (replicate m 0) k
    (eq-eqb (used_words (replicate m 0)) 0 (sum_by-replicate (λ (w : ℕ). if not (w == 0) then 1 else 0) m 0
    ∙ omega arith))

no_bit : (m k i : ℕ) → bit_at (word_at (replicate m 0) k) i ≡ 1 → ⊥
no_bit m k i is = absurd (omega (arith, is, ap (λ w. bit_at w i) (none_at m k), bit_at-zero i))

pub none_held : {X : Type 0} {a : X} → None ≡ Some a → ⊥
none_held same = cc

active_may : (stage : Stage) (s : Step) → is_active stage ≡ true → stage_ok stage s ≡ true
active_may stages.Active s is = refl
active_may (stages.Closing words) s is = cc
active_may stages.Left s is = cc
active_may (stages.Opening words) s is = cc

-- giving up and freeing are for a thread that is active, and for one that has left
giving_may : (stage : Stage) (c : ℕ) → may_give_up stage ≡ true → stage_ok stage (Free c) ≡ true
giving_may stages.Active c is = refl
giving_may (stages.Closing words) c is = cc
giving_may stages.Left c is = refl
giving_may (stages.Opening words) c is = cc

-- a place that is vacant and below the limit may get a reference, from a source that fits what is locked
pub raising : {A : Type 0} {heap : TableSeen} {seat : SeatSeen A} {places : PlacesSeen}
    {works : List (ℕ × Payload A)}
    {popped : List ℕ} {ledger : Ledger} (source : Source) (k c : ℕ)
    → Holding A heap seat places works popped ledger → is_active (part_seen heap.cells seat.log).row.stage ≡ true
    → lock_ok (locked_place heap.cells seat.log) (LocalUp source k) ≡ true
    → meant (part_seen heap.cells seat.log) (LocalUp source k) ≡ Some c → k < MOST_PLACES → held_at places k ≡ None
    → Raising heap.cells seat.log source k c
raising {heap = heap} {seat = seat} source k c keeps active fits named low vacant = record {
  own = rw (
    active_may (part_seen heap.cells seat.log).row.stage (LocalUp source k) active,
    fits,
    keeps.hand_is,
    lt-ltb k MOST_PLACES low,
    keeps.placed k ∙ ap cell_held vacant,
  ) refl;
  cell = named;
}

-- the thread may give references up
pub stands : {A : Type 0} {heap : TableSeen} {seat : SeatSeen A} {places : PlacesSeen}
    {works : List (ℕ × Payload A)}
    {popped : List ℕ} {ledger : Ledger}
    → Holding A heap seat places works popped ledger → may_give_up (part_seen heap.cells seat.log).row.stage ≡ true
    → locked_place heap.cells seat.log ≡ None → MayCountDown heap.cells seat.log hands.Free
stands keeps stage unlocked = record { stage = stage; lock = unlocked; hand_is = keeps.hand_is }

pub nothing_locked : (n : ℕ) (log : List LogItem) → locked_place n log ≡ None → lock_seen n log ≡ None
nothing_locked n log none = ap (locked_cell (part_seen n log).frame) none

-- with nothing locked no slot is out but those of the worklist
pub out_unlocked : {A : Type 0} (n : ℕ) (log : List LogItem) (works : List (ℕ × Payload A)) → locked_place n log ≡ None
    → slots_out (lock_seen n log) works ≡ map slot_out works
out_unlocked n log works none = ap (λ l. slots_out (locked_cell (part_seen n log).frame l) works) none

no_marks_yet : (n c : ℕ) → is_marked (replicate n false) c ≡ false
no_marks_yet n c = elim (cases_lt c (length (replicate n false))) [
  | inl inside ↦ get_or-replicate n c false false (omega (arith, inside, length-replicate n false))
  | inr past ↦ get_or_past (replicate n false) c false past
]

-- a thread that has done nothing yet, with no place filled
pub opening : {A : Type 0} (heap : TableSeen) (seat : SeatSeen A) (places : PlacesSeen) (popped : List ℕ)
    → IsFirst seat.log → seat.slots ≡ [] → places.slots ≡ [] → popped ≡ replicate (words_for heap.cells) 0
    → Holding A heap seat places [] popped (record { allocs = 0; frees = 0 })
opening heap seat places popped (FirstNew log) slots none blank = record {
  hand_is = rw log refl;
  placed = λ k. rw (log, none) refl;
  risen = λ k held there. absurd (none_held (rw none at there));
  inside = λ k held there. absurd (none_held (rw none at there));
  out = rw log slots;
  lock_filled = λ k is. absurd (none_held (rw log at is));
  lock_has = λ c is. absurd (none_held (rw log at is));
  listed = rw log refl;
  buried = rw log (nothing_buried heap.cells (part_seen heap.cells []).worklist (part_seen heap.cells []).has
      (no_marks_yet heap.cells));
  popped_is = rw log blank;
  words = ap length blank ∙ length-replicate (words_for heap.cells) 0;
  allocs = rw log refl;
  frees = rw log refl;
  bits = λ k i is. absurd (no_bit (words_for heap.cells) k i (ap (λ ws. bit_at (word_at ws k) i) (sym blank) ∙ is));
}
opening heap seat places popped (FirstAgain t log) slots none blank = record {
  hand_is = rw log refl;
  placed = λ k. rw (log, none) refl;
  risen = λ k held there. absurd (none_held (rw none at there));
  inside = λ k held there. absurd (none_held (rw none at there));
  out = rw log slots;
  lock_filled = λ k is. absurd (none_held (rw log at is));
  lock_has = λ c is. absurd (none_held (rw log at is));
  listed = rw log refl;
  buried = rw log (nothing_buried heap.cells (part_seen heap.cells (Stepped (Register t) 0 Nothing ∷ [])).worklist
      (part_seen heap.cells (Stepped (Register t) 0 Nothing ∷ [])).has
      (no_marks_yet heap.cells));
  popped_is = rw log blank;
  words = ap length blank ∙ length-replicate (words_for heap.cells) 0;
  allocs = rw log refl;
  frees = rw log refl;
  bits = λ k i is. absurd (no_bit (words_for heap.cells) k i (ap (λ ws. bit_at (word_at ws k) i) (sym blank) ∙ is));
}

if_some : {X : Type 0} {P Q : Type 0} (o : Option X) → (P → Q) → IfSome o (λ x. P) → IfSome o (λ x. Q)
if_some None f p = tt
if_some (Some x) f p = f p

module _ {A : Type 0} where
  pub slots_pushed : (c : ℕ) (block : Option (ℕ × Payload A)) (works : List (ℕ × Payload A))
      → IfSome block (λ there. there.0 ≡ c)
      → out_with c block (map slot_out works) ≡ map slot_out (pushed block works)
  slots_pushed c None works of_cell = refl
  slots_pushed c (Some there) works of_cell = ap (λ (d : ℕ). (d, None) ∷ map slot_out works) (sym of_cell)

  pub blocks_pushed : (c : ℕ) (block : Option (ℕ × Payload A)) (works : List (ℕ × Payload A))
      → IfSome block (λ there. there.0 ≡ c)
      → taken_on false (is_there block) c (entries_answered block) (map block_listed works) ≡ map block_listed
      (pushed block works)
  blocks_pushed c None works of_cell = refl
  blocks_pushed c (Some there) works of_cell =
      ap (λ (d : ℕ). (d, entries_answered (Some there)) ∷ map block_listed works) (sym of_cell)

module _ (n : ℕ) (before log : List LogItem) where
  -- the locked object is where it was: the place that is filled now was vacant
  lock_stays : (k c : ℕ) → KnowsPart n log (filling k c (known_seen n before))
      → ((j : ℕ) → locked_place n before ≡ Some j → is_some (place_seen n before j) ≡ true)
      → place_seen n before k ≡ None → lock_seen n log ≡ lock_seen n before
  lock_stays k c knows there vacant =
      ap (λ (p : Part). locked_cell p.frame p.row.locked) knows.part ∙ same (locked_place n before) there
    where
      same : (l : Option ℕ) → ((j : ℕ) → l ≡ Some j → is_some (place_seen n before j) ≡ true)
          → locked_cell (filled (part_seen n before).frame k c) l ≡ locked_cell (part_seen n before).frame l
      same None there = refl
      same (Some j) there = place_at-filled_else (part_seen n before).frame k c j
          (λ is. absurd (not_there (place_seen n before j) (there j refl) (ap (place_seen n before) is ∙ vacant)))

  still_filled : (k c : ℕ) → KnowsPart n log (filling k c (known_seen n before)) → (j : ℕ)
      → is_some (place_seen n before j) ≡ true → is_some (place_seen n log j) ≡ true
  still_filled k c knows j there = ap (λ (p : Part). is_some (place_at p.frame j)) knows.part ∙ elim (cases_eq j k) [
    | inl same ↦ ap is_some (ap (place_at (filled (part_seen n before).frame k c)) same
        ∙ place_at-filled_here (part_seen n before).frame k c)
    | inr other ↦ ap is_some (place_at-filled_else (part_seen n before).frame k c j other) ∙ there
  ]

module _ {A : Type 0} {heap : TableSeen} (before seat : SeatSeen A) {old places : PlacesSeen}
    {works : List (ℕ × Payload A)} {popped : List ℕ} {ledger : Ledger} where
  -- ---- a place that was vacant has a reference more

  placed_up : (k c : ℕ) (risen : Bool) → Holding A heap before old works popped ledger
      → KnowsPart heap.cells seat.log (filling k c (known_seen heap.cells before.log))
      → Updates old places k (Some (record { cell = c; risen = risen })) → (j : ℕ)
      → place_seen heap.cells seat.log j ≡ cell_held (held_at places j)
  placed_up k c risen keeps knows updates j = ap (λ (p : Part). place_at p.frame j) knows.part ∙ elim (cases_eq j k) [
    | inl same ↦ ap (place_at (filled (part_seen heap.cells before.log).frame k c)) same
        ∙ place_at-filled_here (part_seen heap.cells before.log).frame k c
        ∙ sym (ap cell_held (ap (held_at places) same ∙ updates.changed))
    | inr other ↦ place_at-filled_else (part_seen heap.cells before.log).frame k c j other
        ∙ keeps.placed j ∙ sym (ap cell_held (updates.others j other))
  ]

  pub after_up : (k c : ℕ) (risen : Bool) → Holding A heap before old works popped ledger → IsSameSeat before seat
      → KnowsPart heap.cells seat.log (filling k c (known_seen heap.cells before.log))
      → KeepsNotes heap.cells before.log seat.log
      → (IsTrue risen → risen_seen heap.cells seat.log (drops.Frame k) c ≡ true)
      → c < heap.cells
      → Updates old places k (Some (record { cell = c; risen = risen }))
      → held_at old k ≡ None → contents_locked seat.log ≡ contents_locked before.log
      → Holding A heap seat places works popped ledger
  after_up k c risen keeps stays knows goes_on seen inside updates vacant found =
      let locks = lock_stays heap.cells before.log seat.log k c knows keeps.lock_filled (keeps.placed k
      ∙ ap cell_held vacant) in
      record {
        hand_is = ap (λ (p : Part). p.row.hand) knows.part ∙ keeps.hand_is;
        placed = placed_up k c risen keeps knows updates;
        risen = λ j held there is. elim (cases_eq j k) [
          | inl same ↦
              let new : record { cell = c; risen = risen } ≡ held =
              same_held (sym updates.changed ∙ ap (held_at places) (sym same) ∙ there) in
              ap (λ i. risen_seen heap.cells seat.log (drops.Frame i) held.cell) same
              ∙ ap (λ (x : PlaceEntry). risen_seen heap.cells seat.log (drops.Frame k) x.cell) (sym new)
              ∙ seen (ap (λ (x : PlaceEntry). x.risen) new ∙ is)
          | inr other ↦
              goes_on.risen (drops.Frame j) held.cell (keeps.risen j held (sym (updates.others j other) ∙ there) is)
              ∙ ap (names held.cell) (placed_up k c risen keeps knows updates j ∙ ap cell_held there)
              ∙ eq-eqb held.cell held.cell refl
        ];
        inside = λ j held there. elim (cases_eq j k) [
          | inl same ↦
              let new : record { cell = c; risen = risen } ≡ held =
              same_held (sym updates.changed ∙ ap (held_at places) (sym same) ∙ there) in
              subst (λ (x : PlaceEntry). x.cell < heap.cells) new inside
          | inr other ↦ keeps.inside j held (sym (updates.others j other) ∙ there)
        ];
        out = stays.2 ∙ keeps.out ∙ ap (λ l. slots_out l works) (sym locks);
        lock_filled = λ j is. still_filled heap.cells before.log seat.log k c knows j
            (keeps.lock_filled j (sym (ap (λ (p : Part). p.row.locked) knows.part) ∙ is));
        lock_has = λ d is. ap (λ (p : Part). p.has d) knows.part ∙ keeps.lock_has d (sym locks ∙ is)
            ∙ ap (λ o. entries_in (found_or contents.Nothing o)) (sym found);
        listed = knows.blocks ∙ keeps.listed;
        buried = rw (knows.part, knows.blocks) keeps.buried;
        popped_is = keeps.popped_is ∙ sym (ap (λ (p : Part). p.popped) knows.part);
        words = keeps.words;
        bits = keeps.bits;
        allocs = keeps.allocs ∙ sym (ap (λ (p : Part). p.row.allocs) knows.part);
        frees = keeps.frees ∙ sym (ap (λ (p : Part). p.row.frees) knows.part);
      }

  -- ---- a place's reference is gone, and the block of the object that it ended is on the worklist

  placed_released : (k : ℕ) (held : PlaceEntry) (block : Option (ℕ × Payload A))
      → Holding A heap before old works popped ledger
      → KnowsPart heap.cells seat.log (released (is_there block) (drops.Frame k) held.cell (entries_answered block)
      (known_seen heap.cells before.log))
      → Updates old places k None → (j : ℕ)
      → place_seen heap.cells seat.log j ≡ cell_held (held_at places j)
  placed_released k held block keeps knows updates j = ap (λ (p : Part). place_at p.frame j) knows.part
      ∙ elim (cases_eq j k) [
        | inl same ↦ ap (place_at (vacated (part_seen heap.cells before.log).frame k)) same
            ∙ vacated_here (part_seen heap.cells before.log).frame k
            ∙ sym (ap cell_held (ap (held_at places) same ∙ updates.changed))
        | inr other ↦ place_at-vacated_else (part_seen heap.cells before.log).frame k j other
            ∙ keeps.placed j ∙ sym (ap cell_held (updates.others j other))
      ]

  pub after_release : (k : ℕ) (held : PlaceEntry) (block : Option (ℕ × Payload A))
      → Holding A heap before old works popped ledger
      → Continues before seat
      → KnowsPart heap.cells seat.log (released (is_there block) (drops.Frame k) held.cell (entries_answered block)
      (known_seen heap.cells before.log))
      → FillsNoPlace heap.cells before.log seat.log
      → IsTakenBlock heap.cells held.cell block before seat
      → held.cell < heap.cells
      → Updates old places k None
      → locked_place heap.cells before.log ≡ None
      → Holding A heap seat places (pushed block works) popped ledger
  after_release k held block keeps continues knows goes_on answers low updates unlocked = record {
    hand_is = ap (λ (p : Part). p.row.hand) knows.part ∙ keeps.hand_is;
    placed = placed_released k held block keeps knows updates;
    risen = λ j there is_there is. elim (cases_eq j k) [
      | inl same ↦ absurd (none_held (sym updates.changed ∙ ap (held_at places) (sym same) ∙ is_there))
      | inr other ↦ goes_on.risen j there.cell (placed_released k held block keeps knows updates j
          ∙ ap cell_held is_there)
          (keeps.risen j there (sym (updates.others j other) ∙ is_there) is)
    ];
    inside = λ j there is_there. elim (cases_eq j k) [
      | inl same ↦ absurd (none_held (sym updates.changed ∙ ap (held_at places) (sym same) ∙ is_there))
      | inr other ↦ keeps.inside j there (sym (updates.others j other) ∙ is_there)
    ];
    out = answers.out ∙ ap (out_with held.cell block) (keeps.out ∙ out_unlocked heap.cells before.log works unlocked)
        ∙ slots_pushed held.cell block works answers.of_cell
        ∙ sym (out_unlocked heap.cells seat.log (pushed block works) (ap (λ (p : Part). p.row.locked) knows.part
        ∙ unlocked));
    lock_filled = λ j is. absurd (none_held (sym (ap (λ (p : Part). p.row.locked) knows.part ∙ unlocked) ∙ is));
    lock_has = λ d is. absurd
        (none_held (sym (nothing_locked heap.cells seat.log (ap (λ (p : Part). p.row.locked) knows.part
        ∙ unlocked)) ∙ is));
    listed = knows.blocks ∙ ap (taken_on false (is_there block) held.cell (entries_answered block)) keeps.listed
        ∙ blocks_pushed held.cell block works answers.of_cell;
    buried = rw (knows.part, knows.blocks)
        (after_given held.cell block keeps.buried answers.fresh low (marks_wide heap.cells before.log) answers.entries);
    popped_is = keeps.popped_is ∙ sym (ap (λ (p : Part). p.popped) knows.part);
    words = keeps.words;
    bits = keeps.bits;
    allocs = keeps.allocs ∙ sym (ap (λ (p : Part). p.row.allocs) knows.part);
    frees = keeps.frees ∙ sym (ap (λ (p : Part). p.row.frees) knows.part);
  }

entries_front : {A : Type 0} {works : List (ℕ × Payload A)} (entry : ℕ) (mid : List (ℕ × Payload A))
    (pops : PopsEntry works mid entry)
    → entries_in (contents_of pops.held) ≡ entries_of pops.left ++ entry ∷ []
entries_front entry mid pops = contents_have pops.held ∙ pops.entries

module _ {A : Type 0} {heap : TableSeen} (before seat : SeatSeen A) {places : PlacesSeen}
    {works : List (ℕ × Payload A)}
    {popped : List ℕ} {ledger : Ledger} where
  -- ---- the front block's last entry is released

  listed_front : (entry : ℕ) (mid : List (ℕ × Payload A)) (pops : PopsEntry works mid entry)
      → Holding A heap before places works popped ledger
      → taken_seen heap.cells before.log ≡ (pops.cell, entries_in (contents_of pops.held)) ∷ map block_listed pops.below
  listed_front entry mid pops keeps = keeps.listed ∙ ap (map block_listed) pops.before

  buried_front : (entry : ℕ) (mid : List (ℕ × Payload A)) (pops : PopsEntry works mid entry)
      → Holding A heap before places works popped ledger
      → Buried heap.cells (part_seen heap.cells before.log).worklist (part_seen heap.cells before.log).has
      ((pops.cell, entries_in (contents_of pops.held)) ∷ map block_listed pops.below)
  buried_front entry mid pops keeps =
      subst (Buried heap.cells (part_seen heap.cells before.log).worklist (part_seen heap.cells before.log).has)
      (listed_front entry mid pops keeps) keeps.buried

  -- the front block's entries are cells of the heap, and so are those that it keeps
  pub entry_inside : (entry : ℕ) (mid : List (ℕ × Payload A)) (pops : PopsEntry works mid entry)
      → Holding A heap before places works popped ledger
      → entry < heap.cells
  entry_inside entry mid pops keeps =
      cells_last heap.cells (entries_of pops.left) entry (subst (AreCells heap.cells) (entries_front entry mid pops)
      ((buried_front entry mid pops keeps).are_cells pops.cell (entries_in (contents_of pops.held))
      (listed_here pops.cell (entries_in (contents_of pops.held)) (map block_listed pops.below))))

  -- the reference may go
  pub entry_held : (entry : ℕ) (mid : List (ℕ × Payload A)) (pops : PopsEntry works mid entry)
      → Holding A heap before places works popped ledger
      → may_give_up (part_seen heap.cells before.log).row.stage ≡ true → locked_place heap.cells before.log ≡ None
      → MayDrop heap.cells before.log (drops.Work pops.cell) entry
  entry_held entry mid pops keeps stage unlocked =
      let b = buried_front entry mid pops keeps in
      let here = listed_here pops.cell (entries_in (contents_of pops.held)) (map block_listed pops.below) in
      record {
        stands = stands keeps stage unlocked;
        cell = ap (λ t. if t then last_of ((part_seen heap.cells before.log).has pops.cell) else None)
            (b.marked pops.cell (entries_in (contents_of pops.held)) here)
            ∙ ap last_of (b.has_them pops.cell (entries_in (contents_of pops.held)) here ∙ entries_front entry mid pops)
            ∙ last_put (entries_of pops.left) entry;
        listed = ap is_some (ap (λ bs. listed_at bs pops.cell) (listed_front entry mid pops keeps) ∙ here);
      }

  pub after_entry : (entry : ℕ) (mid : List (ℕ × Payload A)) (block : Option (ℕ × Payload A))
      (pops : PopsEntry works mid entry)
      → Holding A heap before places works popped ledger → Continues before seat
      → KnowsPart heap.cells seat.log (released (is_there block) (drops.Work pops.cell) entry (entries_answered block)
      (known_seen heap.cells before.log))
      → FillsNoPlace heap.cells before.log seat.log
      → IsTakenBlock heap.cells entry block before seat
      → locked_place heap.cells before.log ≡ None
      → Holding A heap seat places (pushed block mid) popped ledger
  after_entry entry mid block pops keeps continues knows goes_on answers unlocked =
      let es : List ℕ = entries_in (contents_of pops.held) in
      let fewer : List ℕ = entries_in (contents_of pops.left) in
      let below : Blocks = map block_listed pops.below in
      let b = buried_front entry mid pops keeps in
      let all_cells : AreCells heap.cells (entries_of pops.left ++ entry ∷ []) = subst (AreCells heap.cells)
      (entries_front entry mid pops) (b.are_cells pops.cell es (listed_here pops.cell es below)) in
      let cells : AreCells heap.cells fewer = subst (AreCells heap.cells) (sym (contents_have pops.left))
      (cells_front heap.cells (entries_of pops.left) entry all_cells) in
      let less : front_of es ≡ fewer = ap front_of (entries_front entry mid pops)
      ∙ front_put (entries_of pops.left) entry ∙ sym (contents_have pops.left) in
      let cut_is : cut pops.cell (taken_seen heap.cells before.log) ≡ (pops.cell, fewer) ∷ below =
      ap (cut pops.cell) (listed_front entry mid pops keeps) ∙ front_cut pops.cell es b
      ∙ ap (λ xs. (pops.cell, xs) ∷ below) less in
      let fresh : IfSome block (λ there. listed_at (cut pops.cell (taken_seen heap.cells before.log)) entry ≡ None) =
      if_some block (λ old. ap (λ bs. listed_at bs entry) cut_is
      ∙ unlisted_front pops.cell es fewer below entry
      (ap (λ bs. listed_at bs entry) (sym (listed_front entry mid pops keeps)) ∙ old)) answers.fresh in
      record {
        hand_is = ap (λ (p : Part). p.row.hand) knows.part ∙ keeps.hand_is;
        placed = λ j. ap (λ (p : Part). place_at p.frame j) knows.part ∙ keeps.placed j;
        risen = λ j there is_there is. goes_on.risen j there.cell
            (ap (λ (p : Part). place_at p.frame j) knows.part ∙ keeps.placed j ∙ ap cell_held is_there)
            (keeps.risen j there is_there is);
        inside = keeps.inside;
        out = answers.out ∙ ap (out_with entry block) (keeps.out ∙ out_unlocked heap.cells before.log works unlocked
            ∙ ap (map slot_out) pops.before ∙ sym (ap (map slot_out) pops.after))
            ∙ slots_pushed entry block mid answers.of_cell
            ∙ sym (out_unlocked heap.cells seat.log (pushed block mid) (ap (λ (p : Part). p.row.locked) knows.part
            ∙ unlocked));
        lock_filled = λ j is. absurd (none_held (sym (ap (λ (p : Part). p.row.locked) knows.part ∙ unlocked) ∙ is));
        lock_has = λ d is. absurd
            (none_held (sym (nothing_locked heap.cells seat.log (ap (λ (p : Part). p.row.locked) knows.part
            ∙ unlocked)) ∙ is));
        listed = knows.blocks ∙ ap (taken_on false (is_there block) entry (entries_answered block))
            (cut_is ∙ sym (ap (map block_listed) pops.after))
            ∙ blocks_pushed entry block mid answers.of_cell;
        buried = rw (knows.part, knows.blocks) (after_given entry block
            (subst (Buried heap.cells (part_seen heap.cells before.log).worklist
            (put pops.cell (front_of ((part_seen heap.cells before.log).has pops.cell))
            (part_seen heap.cells before.log).has)) (sym cut_is)
            (after_cut pops.cell es fewer b cells less))
            fresh (entry_inside entry mid pops keeps) (marks_wide heap.cells before.log) answers.entries);
        popped_is = keeps.popped_is ∙ sym (ap (λ (p : Part). p.popped) knows.part);
        words = keeps.words;
        bits = keeps.bits;
        allocs = keeps.allocs ∙ sym (ap (λ (p : Part). p.row.allocs) knows.part);
        frees = keeps.frees ∙ sym (ap (λ (p : Part). p.row.frees) knows.part);
      }

  -- ---- the front block, without entries, is given back

  pub front_inside : (d : ℕ) (payload : Payload A) (below : List (ℕ × Payload A))
      → Holding A heap before places works popped ledger
      → works ≡ (d, payload) ∷ below → d < heap.cells
  front_inside d payload below keeps front =
      keeps.buried.inside d (entries_in (contents_of payload))
      (ap (λ bs. listed_at bs d) (keeps.listed ∙ ap (map block_listed) front)
      ∙ listed_here d (entries_in (contents_of payload)) (map block_listed below))

  pub free_carries : (d : ℕ) (payload : Payload A) (below : List (ℕ × Payload A))
      → Holding A heap before places works popped ledger
      → may_give_up (part_seen heap.cells before.log).row.stage ≡ true → locked_place heap.cells before.log ≡ None
      → works ≡ (d, payload) ∷ below → entries_of payload ≡ [] → MayCarry heap.cells before.log (Free d) d
  free_carries d payload below keeps stage unlocked front none =
      let es : List ℕ = entries_in (contents_of payload) in
      let b : Buried heap.cells (part_seen heap.cells before.log).worklist (part_seen heap.cells before.log).has
      ((d, es) ∷ map block_listed below) =
      subst (Buried heap.cells (part_seen heap.cells before.log).worklist (part_seen heap.cells before.log).has)
      (keeps.listed ∙ ap (map block_listed) front) keeps.buried in
      let here : listed_at ((d, es) ∷ map block_listed below) d ≡ Some es = listed_here d es (map block_listed below) in
      record {
        own = rw (
          giving_may (part_seen heap.cells before.log).row.stage d stage,
          unlocked,
          keeps.hand_is,
          b.marked d es here,
          b.has_them d es here ∙ contents_have payload ∙ none,
        ) refl;
        cell = refl;
      }

  pub after_freeing : (d : ℕ) (payload : Payload A) (below : List (ℕ × Payload A))
      → Holding A heap before places works popped ledger
      → locked_place heap.cells before.log ≡ None
      → works ≡ (d, payload) ∷ below → Continues before seat → seat.slots ≡ rest before.slots
      → KnowsPart heap.cells seat.log (giving_back d (known_seen heap.cells before.log))
      → KeepsNotes heap.cells before.log seat.log
      → Holding A heap seat places below popped (record ledger { frees = ledger.frees + 1 })
  after_freeing d payload below keeps unlocked front continues home knows goes_on =
      let es : List ℕ = entries_in (contents_of payload) in
      let listed : taken_seen heap.cells before.log ≡ (d, es) ∷ map block_listed below = keeps.listed
      ∙ ap (map block_listed) front in
      let b : Buried heap.cells (part_seen heap.cells before.log).worklist (part_seen heap.cells before.log).has
      ((d, es) ∷ map block_listed below) =
      subst (Buried heap.cells (part_seen heap.cells before.log).worklist (part_seen heap.cells before.log).has) listed
      keeps.buried in
      let off_is : off d (taken_seen heap.cells before.log) ≡ map block_listed below = ap (off d) listed
      ∙ front_off d es b in
      record {
        hand_is = ap (λ (p : Part). p.row.hand) knows.part ∙ keeps.hand_is;
        placed = λ j. ap (λ (p : Part). place_at p.frame j) knows.part ∙ keeps.placed j;
        risen = λ j there is_there is. goes_on.risen (drops.Frame j) there.cell (keeps.risen j there is_there is)
            ∙ ap (names there.cell) (ap (λ (p : Part). place_at p.frame j) knows.part ∙ keeps.placed j
            ∙ ap cell_held is_there) ∙ eq-eqb there.cell there.cell refl;
        inside = keeps.inside;
        out = home ∙ ap rest (keeps.out ∙ out_unlocked heap.cells before.log works unlocked ∙ ap (map slot_out) front)
            ∙ sym (out_unlocked heap.cells seat.log below (ap (λ (p : Part). p.row.locked) knows.part ∙ unlocked));
        lock_filled = λ j is. absurd (none_held (sym (ap (λ (p : Part). p.row.locked) knows.part ∙ unlocked) ∙ is));
        lock_has = λ d is. absurd
            (none_held (sym (nothing_locked heap.cells seat.log (ap (λ (p : Part). p.row.locked) knows.part
            ∙ unlocked)) ∙ is));
        listed = knows.blocks ∙ off_is;
        buried = rw (knows.part, knows.blocks)
            (subst (Buried heap.cells (set (part_seen heap.cells before.log).worklist d false)
            (part_seen heap.cells before.log).has)
            (sym off_is) (after_free d es b));
        popped_is = keeps.popped_is ∙ sym (ap (λ (p : Part). p.popped) knows.part);
        words = keeps.words;
        bits = keeps.bits;
        allocs = keeps.allocs ∙ sym (ap (λ (p : Part). p.row.allocs) knows.part);
        frees = ap (λ m. m + 1) keeps.frees ∙ sym (ap (λ (p : Part). p.row.frees) knows.part);
      }

-- ---- turns leave all handles as they are

module _ {A : Type 0} where
  pub kept : (frame : FrameSeen A) → KeepsHandles frame frame
  kept frame = record {
    heap = refl;
    thread = refl;
    len = refl;
    next = refl;
    places = λ k. refl;
    rest = record { stage = refl; lock = refl; from = refl; near = refl };
  }

  pub kept_on : {old mid new : FrameSeen A} → KeepsHandles old mid → KeepsHandles mid new → KeepsHandles old new
  kept_on first second = record {
    heap = second.heap ∙ first.heap;
    thread = second.thread ∙ first.thread;
    len = second.len ∙ first.len;
    next = second.next ∙ first.next;
    places = λ k. second.places k ∙ first.places k;
    rest = record {
      stage = second.rest.stage ∙ first.rest.stage;
      lock = second.rest.lock ∙ first.rest.lock;
      from = second.rest.from ∙ first.rest.from;
      near = second.rest.near ∙ first.rest.near;
    };
  }

  -- one turn less is left, and one more was made
  pub one_more_turn : (old mid new : FrameSeen A) (budget left : ℕ) → 0 < left → left ≤ budget
      → Turns old (budget - left) mid → Turned mid new
      → Turns old (budget - (left - 1)) new
  one_more_turn old mid new budget left some few turns turned =
      subst (λ m. Turns old m new) (omega (arith, some, few)) (OneMore (budget - left) mid new turns turned)
