-- What becomes of what a thread holds when entries are popped, and when one is dealt with.
use Rattle.std.proofs.Common.{◌≡◌, ◌≢◌, ◌⊎◌, not, ℕ, ◌+◌, ◌*◌, ◌/◌, ◌%◌, ◌^◌, ◌<◌, ◌≤◌, ◌==◌, true, false}
use Rattle.std.proofs.Common.{if◌then◌else◌, List, [], ◌∷◌, length, set, get_or, max, zero, suc, Option, Some, None}
use Rattle.std.proofs.Common.{refl, sym, ◌∙◌, ap, subst, arith, inl, inr}
use Rattle.std.specs.Int.{bit_at}
use Rattle.std.specs.Int.RustNames.{bit_or, bit_xor}
use Rattle.std.proofs.lemmas.Bool.{cases_eq, cases_lt, eq-eqb}
use Rattle.std.proofs.lemmas.List.{length-set, get_or-set_same, get_or-set_other}
use Rattle.std.proofs.lemmas.Option.{slice_get-get_or, get_or_from_slice_get}
use Rattle.std.proofs.lemmas.List.Sums.{sum_by-cons}
use Rattle.std.proofs.lemmas.Nat.Bits.{bit_at-zero, bit_at-lt, bit_at_or, bit_at_xor, bit_at-pow_same, bit_at-pow_other}
use Rattle.std.proofs.lemmas.Nat.Bits.{same_from_bits}
use Rattle.brc_count.specs.Places.{PlacesSeen, cell_held}
use Rattle.brc_table.specs.block.declared.payload.Payload.{Payload}
use Rattle.brc_table.specs.law.world.Heap.{words_for}
use Rattle.brc_table.specs.law.world.Lists.{names, place_at, bit_of, word_at, without_bit, is_blank, used_words}
use Rattle.brc_table.proofs.law.world.Bitwise.{bit_inside}
use Rattle.brc_table.specs.law.declared.world.event.Dropped.TheVariants as drops
use Rattle.brc_table.specs.law.known.Items.{Part, popped_told}
use Rattle.brc_table.specs.law.known.Going_On.{popping, closing, reopening, settling, taking}
use Rattle.brc_table.specs.law.known.Taken.{taken_on}
use Rattle.brc_table.specs.law.declared.rule.told.LogItem.{LogItem}
use Rattle.brc_table.specs.law.rule.Seen.{part_seen, taken_seen}
use Rattle.brc_table.specs.law.steps.Taking.{AreQueued}
use Rattle.brc_table.specs.Knowing.{known_seen, entries_of as entries_answered, KeepsNotes}
use Rattle.brc_table.specs.Moving.{is_there, out_with}
use Rattle.brc_table.specs.Seated.{TableSeen, SeatSeen, IsSameSeat, Continues}
use Rattle.brc_biased.specs.Released.{IsTakenBlock}
use Rattle.brc_biased.specs.Standing.{FillsNoPlace}
use Rattle.brc_biased.specs.Up.{KnowsPart}
use Rattle.brc_biased.proofs.Marking.{marks_wide}
use Rattle.brc_count.specs.declared.ledger.Ledger.{Ledger}
use Rattle.brc_count.specs.Polling.{DealsBits, NoBit, NotSet, DrainsNamed, NoName, NotNamed}
use Rattle.brc_count.specs.Frames.{AreBits, FrameSeen, Holding, locked_place, pushed}
use Rattle.brc_count.proofs.Buried.{after_given}
use Rattle.brc_count.proofs.Changes.{none_held, nothing_locked, out_unlocked, slots_pushed, blocks_pushed}

-- ---- bits

either_bit : (a b : ℕ) → max a b ≡ 1 → a < 2 → b < 2 → (a ≡ 1) ⊎ (b ≡ 1)
either_bit a b one low other = elim (cases_eq a 1) [
  | inl is ↦ inl is
  | inr not ↦ inr (omega (arith, one, low, other, not))
]

module _ {n : ℕ} (words : List ℕ) (fit : AreBits n words) where
  -- bits of cells of the heap join
  pub bits_joined : (k bits : ℕ) → k < length words → AreQueued n k bits
      → AreBits n (set words k (bit_or (word_at words k) bits))
  bits_joined k bits low queued = λ j i is. elim (cases_eq j k) [
    | inr other ↦ fit j i (sym
        (ap (λ w. bit_at w i) (get_or-set_other words k j (bit_or (word_at words k) bits) 0 other)) ∙ is)
    | inl same ↦
        let here : bit_at (bit_or (word_at words k) bits) i ≡ 1 =
        sym (ap (λ w. bit_at w i) (ap (λ m. word_at (set words k (bit_or (word_at words k) bits)) m) same
        ∙ get_or-set_same words k (bit_or (word_at words k) bits) 0 low)) ∙ is in
        subst (λ m. (i < 32) × (m * 32 + i < n)) (sym same)
        (elim (either_bit (bit_at (word_at words k) i) (bit_at bits i) (sym (bit_at_or (word_at words k) bits i) ∙ here)
        (bit_at-lt (word_at words k) i) (bit_at-lt bits i)) [
          | inl was ↦ fit k i was
          | inr new ↦ queued i new
        ])
  ]

  -- a bit that is set goes
  pub bits_left : (c : ℕ) → bit_of words c ≡ 1 → AreBits n (without_bit words c)
  bits_left c there = λ j i is. elim (cases_eq j (c / 32)) [
    | inr other ↦ fit j i (sym
        (ap (λ w. bit_at w i) (get_or-set_other words (c / 32) j (bit_xor (word_at words (c / 32)) (2 ^ (c % 32))) 0
        other)) ∙ is)
    | inl same ↦ elim (cases_eq i (c % 32)) [
      | inl at ↦ fit j i (ap (λ m. bit_at (word_at words m) i) same ∙ ap (bit_at (word_at words (c / 32))) at ∙ there)
      | inr off ↦
          let here : bit_at (bit_xor (word_at words (c / 32)) (2 ^ (c % 32))) i ≡ 1 =
          sym (ap (λ w. bit_at w i) (ap (λ m. word_at (without_bit words c) m) same
          ∙ get_or-set_same words (c / 32) (bit_xor (word_at words (c / 32)) (2 ^ (c % 32))) 0
          (bit_inside words c (omega (arith, there))))) ∙ is in
          fit j i (ap (λ m. bit_at (word_at words m) i) same
          ∙ omega (
            arith,
            here,
            bit_at_xor (word_at words (c / 32)) (2 ^ (c % 32)) i,
            bit_at-pow_other (c % 32) i off,
            bit_at-lt (word_at words (c / 32)) i,
          ))
    ]
  ]

  -- a bit's cell is one of the heap
  pub bit_low : (c : ℕ) → bit_of words c ≡ 1 → c < n
  bit_low c there =
      let low = (fit (c / 32) (c % 32) there).1 in
      omega (arith, low)

-- words that are all 0
pub blank_from : (words : List ℕ) → ((k : ℕ) → word_at words k ≡ 0) → is_blank words ≡ true
blank_from words none = eq-eqb (used_words words) 0 (count words none)
  where
    count : (ws : List ℕ) → ((k : ℕ) → word_at ws k ≡ 0) → used_words ws ≡ 0
    count [] empty = refl
    count (w ∷ ws) empty =
        let first : ◌≡◌ {A = ℕ} (if not (w == 0) then 1 else 0) 0 = ap (λ v. if not (v == 0) then 1 else 0) (empty 0) in
        omega (arith, sum_by-cons (λ (v : ℕ). if not (v == 0) then 1 else 0) w ws, first, count ws (λ k. empty (suc k)))

-- a word that was read
pub word_read : (words : List ℕ) (k v : ℕ) → v ≡ get_or words k v → k < length words → word_at words k ≡ v
word_read words k v read low = get_or_from_slice_get words k v 0 (slice_get-get_or words k v low ∙ ap Some (sym read))

-- The lowest bit of a word that isn't 0 is set, and its cell is one of the heap.
pub record Lowest (n : ℕ) (words : List ℕ) (k i : ℕ) : Type 0 where
  pub set : bit_at (word_at words k) i ≡ 1
  pub low : i < 32
  pub inside : k * 32 + i < n

pub lowest_set : (n : ℕ) (words : List ℕ) (k i v : ℕ) → v ≡ get_or words k v → k < length words → bit_at v i ≡ 1
    → AreBits n words → Lowest n words k i
lowest_set n words k i v read low is fit =
    let set : bit_at (word_at words k) i ≡ 1 = ap (λ w. bit_at w i) (word_read words k v read low) ∙ is in
    record { set = set; low = (fit k i set).0; inside = (fit k i set).1 }

-- ---- what is held

-- what is the same after the bits of word k are popped, and the bits
pub record Pops (n : ℕ) (before log : List LogItem) (k number : ℕ) : Type 0 where
  pub hand : (part_seen n log).row.hand ≡ (part_seen n before).row.hand
  pub locked : (part_seen n log).row.locked ≡ (part_seen n before).row.locked
  pub allocs : (part_seen n log).row.allocs ≡ (part_seen n before).row.allocs
  pub frees : (part_seen n log).row.frees ≡ (part_seen n before).row.frees
  pub frame : (part_seen n log).frame ≡ (part_seen n before).frame
  pub worklist : (part_seen n log).worklist ≡ (part_seen n before).worklist
  pub has : (part_seen n log).has ≡ (part_seen n before).has
  pub blocks : taken_seen n log ≡ taken_seen n before
  pub popped : (part_seen n log).popped ≡ popped_told (Some k) number (part_seen n before).popped

pub drained_pops : (n : ℕ) (before log : List LogItem) (k number : ℕ)
    → KnowsPart n log (popping k number (known_seen n before)) → Pops n before log k number
drained_pops n before log k number knows = record {
  hand = ap (λ (p : Part). p.row.hand) knows.part;
  locked = ap (λ (p : Part). p.row.locked) knows.part;
  allocs = ap (λ (p : Part). p.row.allocs) knows.part;
  frees = ap (λ (p : Part). p.row.frees) knows.part;
  frame = ap (λ (p : Part). p.frame) knows.part;
  worklist = ap (λ (p : Part). p.worklist) knows.part;
  has = ap (λ (p : Part). p.has) knows.part;
  blocks = knows.blocks;
  popped = ap (λ (p : Part). p.popped) knows.part;
}

pub closed_pops : (n : ℕ) (before log : List LogItem) (k number : ℕ)
    → KnowsPart n log (closing n k (popping k number (known_seen n before))) → Pops n before log k number
closed_pops n before log k number knows = record {
  hand = ap (λ (p : Part). p.row.hand) knows.part;
  locked = ap (λ (p : Part). p.row.locked) knows.part;
  allocs = ap (λ (p : Part). p.row.allocs) knows.part;
  frees = ap (λ (p : Part). p.row.frees) knows.part;
  frame = ap (λ (p : Part). p.frame) knows.part;
  worklist = ap (λ (p : Part). p.worklist) knows.part;
  has = ap (λ (p : Part). p.has) knows.part;
  blocks = knows.blocks;
  popped = ap (λ (p : Part). p.popped) knows.part;
}

module _ {A : Type 0} {heap : TableSeen} (before seat : SeatSeen A) {places : PlacesSeen}
    {works : List (ℕ × Payload A)}
    {popped : List ℕ} {ledger : Ledger} where
  -- the bits of a queue word are popped, whether it is drained or closed
  pub after_pops : (k number read : ℕ) → Holding A heap before places works popped ledger → IsSameSeat before seat
      → Pops heap.cells before.log seat.log k number → KeepsNotes heap.cells before.log seat.log
      → AreQueued heap.cells k number → k < words_for heap.cells → read ≡ word_at popped k
      → locked_place heap.cells before.log ≡ None
      → Holding A heap seat places works (set popped k (bit_or read number)) ledger
  after_pops k number read keeps stays pops goes_on queued low was unlocked =
      let gone : locked_place heap.cells seat.log ≡ None = pops.locked ∙ unlocked in
      let inside : k < length popped = subst (λ m. k < m) (sym keeps.words) low in
      record {
        hand_is = pops.hand ∙ keeps.hand_is;
        placed = λ j. ap (λ frame. place_at frame j) pops.frame ∙ keeps.placed j;
        risen = λ j there is_there is. goes_on.risen (drops.Frame j) there.cell (keeps.risen j there is_there is)
            ∙ ap (names there.cell) (ap (λ frame. place_at frame j) pops.frame ∙ keeps.placed j ∙ ap cell_held is_there)
            ∙ eq-eqb there.cell there.cell refl;
        inside = keeps.inside;
        out = stays.2 ∙ keeps.out ∙ out_unlocked heap.cells before.log works unlocked
            ∙ sym (out_unlocked heap.cells seat.log works gone);
        lock_filled = λ j is. absurd (none_held (sym gone ∙ is));
        lock_has = λ d is. absurd (none_held (sym (nothing_locked heap.cells seat.log gone) ∙ is));
        listed = pops.blocks ∙ keeps.listed;
        buried = rw (pops.worklist, pops.has, pops.blocks) keeps.buried;
        popped_is = ap (λ v. set popped k (bit_or v number)) was
            ∙ ap (λ ws. set ws k (bit_or (word_at ws k) number)) keeps.popped_is ∙ sym pops.popped;
        words = length-set popped k (bit_or read number) ∙ keeps.words;
        bits = subst (λ v. AreBits heap.cells (set popped k (bit_or v number))) (sym was)
            (bits_joined popped keeps.bits k number inside queued);
        allocs = keeps.allocs ∙ sym pops.allocs;
        frees = keeps.frees ∙ sym pops.frees;
      }

  -- an entry is dealt with, and the block of the object that it ended is on the worklist
  pub after_settle : (c read : ℕ) (block : Option (ℕ × Payload A)) → Holding A heap before places works popped ledger
      → Continues before seat
      → KnowsPart heap.cells seat.log
      (settling c (taking (is_there block) c (entries_answered block) (known_seen heap.cells before.log)))
      → FillsNoPlace heap.cells before.log seat.log → IsTakenBlock heap.cells c block before seat
      → bit_of popped c ≡ 1 → read ≡ word_at popped (c / 32) → locked_place heap.cells before.log ≡ None
      → Holding A heap seat places (pushed block works) (set popped (c / 32) (bit_xor read (2 ^ (c % 32)))) ledger
  after_settle c read block keeps continues knows goes_on answers there was unlocked =
      let gone : locked_place heap.cells seat.log ≡ None = ap (λ (p : Part). p.row.locked) knows.part ∙ unlocked in
      record {
        hand_is = ap (λ (p : Part). p.row.hand) knows.part ∙ keeps.hand_is;
        placed = λ j. ap (λ (p : Part). place_at p.frame j) knows.part ∙ keeps.placed j;
        risen = λ j held is_there is. goes_on.risen j held.cell
            (ap (λ (p : Part). place_at p.frame j) knows.part ∙ keeps.placed j ∙ ap cell_held is_there)
            (keeps.risen j held is_there is);
        inside = keeps.inside;
        out = answers.out ∙ ap (out_with c block) (keeps.out ∙ out_unlocked heap.cells before.log works unlocked)
            ∙ slots_pushed c block works answers.of_cell
            ∙ sym (out_unlocked heap.cells seat.log (pushed block works) gone);
        lock_filled = λ j is. absurd (none_held (sym gone ∙ is));
        lock_has = λ d is. absurd (none_held (sym (nothing_locked heap.cells seat.log gone) ∙ is));
        listed = knows.blocks ∙ ap (taken_on false (is_there block) c (entries_answered block)) keeps.listed
            ∙ blocks_pushed c block works answers.of_cell;
        buried = rw (knows.part, knows.blocks)
            (after_given c block keeps.buried answers.fresh (bit_low popped keeps.bits c there)
            (marks_wide heap.cells before.log) answers.entries);
        popped_is = ap (λ v. set popped (c / 32) (bit_xor v (2 ^ (c % 32)))) was
            ∙ ap (λ ws. without_bit ws c) keeps.popped_is
            ∙ sym (ap (λ (p : Part). p.popped) knows.part);
        words = length-set popped (c / 32) (bit_xor read (2 ^ (c % 32))) ∙ keeps.words;
        bits = subst (λ v. AreBits heap.cells (set popped (c / 32) (bit_xor v (2 ^ (c % 32))))) (sym was)
            (bits_left popped keeps.bits c there);
        allocs = keeps.allocs ∙ sym (ap (λ (p : Part). p.row.allocs) knows.part);
        frees = keeps.frees ∙ sym (ap (λ (p : Part). p.row.frees) knows.part);
      }

  -- a queue word is open again
  pub after_opens : (k : ℕ) → Holding A heap before places works popped ledger → IsSameSeat before seat
      → KnowsPart heap.cells seat.log (reopening heap.cells k (known_seen heap.cells before.log))
      → KeepsNotes heap.cells before.log seat.log → locked_place heap.cells before.log ≡ None
      → Holding A heap seat places works popped ledger
  after_opens k keeps stays knows goes_on unlocked =
      let gone : locked_place heap.cells seat.log ≡ None = ap (λ (p : Part). p.row.locked) knows.part ∙ unlocked in
      record {
        hand_is = ap (λ (p : Part). p.row.hand) knows.part ∙ keeps.hand_is;
        placed = λ j. ap (λ (p : Part). place_at p.frame j) knows.part ∙ keeps.placed j;
        risen = λ j there is_there is. goes_on.risen (drops.Frame j) there.cell (keeps.risen j there is_there is)
            ∙ ap (names there.cell) (ap (λ (p : Part). place_at p.frame j) knows.part ∙ keeps.placed j
            ∙ ap cell_held is_there)
            ∙ eq-eqb there.cell there.cell refl;
        inside = keeps.inside;
        out = stays.2 ∙ keeps.out ∙ out_unlocked heap.cells before.log works unlocked
            ∙ sym (out_unlocked heap.cells seat.log works gone);
        lock_filled = λ j is. absurd (none_held (sym gone ∙ is));
        lock_has = λ d is. absurd (none_held (sym (nothing_locked heap.cells seat.log gone) ∙ is));
        listed = knows.blocks ∙ keeps.listed;
        buried = rw (knows.part, knows.blocks) keeps.buried;
        popped_is = keeps.popped_is ∙ sym (ap (λ (p : Part). p.popped) knows.part);
        words = keeps.words;
        bits = keeps.bits;
        allocs = keeps.allocs ∙ sym (ap (λ (p : Part). p.row.allocs) knows.part);
        frees = keeps.frees ∙ sym (ap (λ (p : Part). p.row.frees) knows.part);
      }

  -- an own object is handed over, and its block, where it ended, is on the worklist
  pub after_handed : (c : ℕ) (block : Option (ℕ × Payload A)) → Holding A heap before places works popped ledger
      → Continues before seat
      → KnowsPart heap.cells seat.log
      (taking (is_there block) c (entries_answered block) (known_seen heap.cells before.log))
      → FillsNoPlace heap.cells before.log seat.log → IsTakenBlock heap.cells c block before seat
      → c < heap.cells → locked_place heap.cells before.log ≡ None
      → Holding A heap seat places (pushed block works) popped ledger
  after_handed c block keeps continues knows goes_on answers low unlocked =
      let gone : locked_place heap.cells seat.log ≡ None = ap (λ (p : Part). p.row.locked) knows.part ∙ unlocked in
      record {
        hand_is = ap (λ (p : Part). p.row.hand) knows.part ∙ keeps.hand_is;
        placed = λ j. ap (λ (p : Part). place_at p.frame j) knows.part ∙ keeps.placed j;
        risen = λ j held is_there is. goes_on.risen j held.cell
            (ap (λ (p : Part). place_at p.frame j) knows.part ∙ keeps.placed j ∙ ap cell_held is_there)
            (keeps.risen j held is_there is);
        inside = keeps.inside;
        out = answers.out ∙ ap (out_with c block) (keeps.out ∙ out_unlocked heap.cells before.log works unlocked)
            ∙ slots_pushed c block works answers.of_cell
            ∙ sym (out_unlocked heap.cells seat.log (pushed block works) gone);
        lock_filled = λ j is. absurd (none_held (sym gone ∙ is));
        lock_has = λ d is. absurd (none_held (sym (nothing_locked heap.cells seat.log gone) ∙ is));
        listed = knows.blocks ∙ ap (taken_on false (is_there block) c (entries_answered block)) keeps.listed
            ∙ blocks_pushed c block works answers.of_cell;
        buried = rw (knows.part, knows.blocks)
            (after_given c block keeps.buried answers.fresh low (marks_wide heap.cells before.log) answers.entries);
        popped_is = keeps.popped_is ∙ sym (ap (λ (p : Part). p.popped) knows.part);
        words = keeps.words;
        bits = keeps.bits;
        allocs = keeps.allocs ∙ sym (ap (λ (p : Part). p.row.allocs) knows.part);
        frees = keeps.frees ∙ sym (ap (λ (p : Part). p.row.frees) knows.part);
      }

-- ---- each bit of a word is looked at

-- Where bits below i of word k are gone and the others are as they were, and bit i is looked at.
pub record Sifted (k i : ℕ) (was now : List ℕ) : Type 0 where
  pub gone : (j : ℕ) → j < i → bit_at (word_at now k) j ≡ 0
  pub there : (j : ℕ) → i ≤ j → bit_at (word_at now k) j ≡ bit_at (word_at was k) j
  pub others : (m : ℕ) → m ≢ k → word_at now m ≡ word_at was m

pub sifted_none : (k : ℕ) (was : List ℕ) → Sifted k 0 was was
sifted_none k was = record {
  gone = λ j low. absurd (omega (arith, low));
  there = λ j low. refl;
  others = λ m other. refl;
}

module _ (k i : ℕ) (was now : List ℕ) (old : Sifted k i was now) where
  -- the bit isn't set
  pub sifted_unset : bit_at (word_at now k) i ≡ 0 → Sifted k (i + 1) was now
  sifted_unset none = record {
    gone = λ j low. elim (cases_eq j i) [
      | inl same ↦ ap (bit_at (word_at now k)) same ∙ none
      | inr other ↦ old.gone j (omega (arith, low, other))
    ];
    there = λ j low. old.there j (omega (arith, low));
    others = old.others;
  }

  -- the bit is set, and goes
  pub sifted_set : bit_at (word_at now k) i ≡ 1 → i < 32 → (next : List ℕ) → next ≡ without_bit now (k * 32 + i)
      → Sifted k (i + 1) was next
  sifted_set one low next is =
      let word : (k * 32 + i) / 32 ≡ k = omega (arith, low) in
      let bit : (k * 32 + i) % 32 ≡ i = omega (arith, low) in
      let new : next ≡ set now k (bit_xor (word_at now k) (2 ^ i)) =
      is ∙ ap (λ m. set now m (bit_xor (word_at now m) (2 ^ ((k * 32 + i) % 32)))) word
      ∙ ap (λ m. set now k (bit_xor (word_at now k) (2 ^ m))) bit in
      let inside : k < length now = subst (λ m. m < length now) word (bit_inside now (k * 32 + i)
      (omega (
        arith,
        ap (λ m. bit_at (word_at now m) ((k * 32 + i) % 32)) word,
        ap (bit_at (word_at now k)) bit,
        one,
      ))) in
      let here : word_at next k ≡ bit_xor (word_at now k) (2 ^ i) = ap (λ ws. word_at ws k) new
      ∙ get_or-set_same now k (bit_xor (word_at now k) (2 ^ i)) 0 inside in
      record {
        gone = λ j below. ap (λ w. bit_at w j) here ∙ elim (cases_eq j i) [
          | inl same ↦ ap (bit_at (bit_xor (word_at now k) (2 ^ i))) same
              ∙ omega (arith, bit_at_xor (word_at now k) (2 ^ i) i, bit_at-pow_same i, one)
          | inr other ↦ omega (
            arith,
            bit_at_xor (word_at now k) (2 ^ i) j,
            bit_at-pow_other i j other,
            old.gone j (omega (arith, below, other)),
          )
        ];
        there = λ j above. ap (λ w. bit_at w j) here
            ∙ omega (
              arith,
              bit_at_xor (word_at now k) (2 ^ i) j,
              bit_at-pow_other i j (λ same. omega (arith, above, same)),
              bit_at-lt (word_at now k) j,
            )
            ∙ old.there j (omega (arith, above));
        others = λ m other. ap (λ ws. word_at ws m) new
            ∙ get_or-set_other now k m (bit_xor (word_at now k) (2 ^ i)) 0 other ∙ old.others m other;
      }

-- a word has bits of 32 cells alone: once they are gone it is 0
pub sifted_all : (n k : ℕ) (was now : List ℕ) → AreBits n now → Sifted k 32 was now → word_at now k ≡ 0
sifted_all n k was now fit old = same_from_bits (word_at now k) 0 (λ j. none j ∙ sym (bit_at-zero j))
  where
    none : (j : ℕ) → bit_at (word_at now k) j ≡ 0
    none j = elim (cases_lt j 32) [
      | inl low ↦ old.gone j low
      | inr past ↦ elim (cases_eq (bit_at (word_at now k) j) 1) [
        | inl one ↦ absurd (omega (arith, past, (fit k j one).0))
        | inr other ↦ omega (arith, other, bit_at-lt (word_at now k) j)
      ]
    ]

-- a thread that was told nothing drains nothing
pub nothing_named : {A : Type 0} (words : ℕ) (frame : FrameSeen A) (i : ℕ) → DrainsNamed 0 words frame i frame
nothing_named words frame zero = NoName
nothing_named words frame (suc i) = subst (λ m. DrainsNamed 0 words frame m frame) (omega arith)
    (NotNamed i frame (nothing_named words frame i) (bit_at-zero i))

-- and a word without a bit has no entry to deal with
pub nothing_dealt : {A : Type 0} (k : ℕ) (frame : FrameSeen A) (i : ℕ) → DealsBits k 0 frame i frame
nothing_dealt k frame zero = NoBit
nothing_dealt k frame (suc i) = subst (λ m. DealsBits k 0 frame m frame) (omega arith)
    (NotSet i frame (nothing_dealt k frame i) (bit_at-zero i))

-- once a word is drained and its entries are dealt with, it is 0 again, and so are all others
pub still_blank : (k number : ℕ) (was mid now : List ℕ) → ((m : ℕ) → word_at was m ≡ 0)
    → mid ≡ popped_told (Some k) number was
    → word_at now k ≡ 0 → ((m : ℕ) → m ≢ k → word_at now m ≡ word_at mid m) → (m : ℕ) → word_at now m ≡ 0
still_blank k number was mid now blank drained done others m = elim (cases_eq m k) [
  | inl same ↦ ap (word_at now) same ∙ done
  | inr other ↦ others m other ∙ ap (λ ws. word_at ws m) drained
      ∙ get_or-set_other was k m (bit_or (word_at was k) number) 0 other ∙ blank m
]

or_nothing : (number : ℕ) → bit_or 0 number ≡ number
or_nothing number = same_from_bits (bit_or 0 number) number (λ i. bit_at_or 0 number i
    ∙ ap (λ b. max b (bit_at number i)) (bit_at-zero i) ∙ omega arith)

-- what was drained is what the popped word has then
pub drained_word : (k number : ℕ) (was mid : List ℕ) → k < length was → word_at was k ≡ 0
    → mid ≡ popped_told (Some k) number was → word_at mid k ≡ number
drained_word k number was mid low none drained =
    ap (λ ws. word_at ws k) drained ∙ get_or-set_same was k (bit_or (word_at was k) number) 0 low
    ∙ ap (λ w. bit_or w number) none ∙ or_nothing number
