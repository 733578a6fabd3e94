-- Counting on the shared word: SharedUp, SharedDown, Ask.
use Rattle.std.proofs.Common.{◌≡◌, ◌≢◌, ◌⊎◌, ℕ, ◌+◌, ◌-◌, ◌%◌, ◌/◌, ◌<◌, ◌≤◌, ◌^◌, ◌==◌, nat_lt, ◌&&◌, not, true, false}
use Rattle.std.proofs.Common.{if◌then◌else◌, pos, ◌+ℤ◌, ◌-ℤ◌, List, length, Option, Some, None, refl, sym, ◌∙◌, ap}
use Rattle.std.proofs.Common.{subst, inl, inr, arith}
use Rattle.std.specs.Int.RustNames.{bit_or}
use Rattle.std.proofs.lemmas.Bool.{lt-ltb, le-ltb}
use Rattle.std.specs.Cmp.Derive.{both_true}
use prog.Atomic.{either}
use Rattle.atomic_table.specs.Table.{State as Table, Allows}
use Rattle.brc_words.specs.declared.limits.TheConstants.{FIRST_MORTAL}
use Rattle.brc_words.specs.declared.state.State.{State}
use Rattle.brc_words.specs.declared.state.State.TheVariants as states
use Rattle.brc_words.specs.Shared.{bits_of, CountFits}
use Rattle.law.specs.declared.world.cell.Cell.{Cell}
use Rattle.law.specs.declared.world.event.Event.{Event}
use Rattle.law.specs.declared.world.event.Source.{Source}
use Rattle.law.specs.declared.world.event.Dropped.{Dropped}
use Rattle.law.specs.declared.world.event.Step.{Step}
use Rattle.law.specs.declared.world.event.Step.TheVariants.{SharedUp, SharedDown, Ask}
use Rattle.law.specs.declared.world.row.Hand.TheVariants as hands
use Rattle.law.specs.world.Heap.{Heap, cell_at, row_at}
use Rattle.law.specs.world.Holding.{lives}
use Rattle.law.specs.world.Sound.{IsSound, held}
use Rattle.law.specs.world.Steps.{after, after_target, thread_may, target_at, cell_after, is_mine, is_others}
use Rattle.law.specs.world.Steps.{is_default, is_positive, counts_up_locally, stepped}
use Rattle.law.proofs.world.Naming.{free_hand}
use Rattle.law.proofs.world.Dropping.{source_held, dropped_held}
use Rattle.law.proofs.world.Reached.{event_sound, reached_sound}
use Rattle.law.proofs.world.Sizes.{sound_range, reached_count_range}
use Rattle.law.proofs.lasting.Lasting.{held_live, live_owner}
use Rattle.law.proofs.lasting.Progress.{inside}
use Rattle.law.specs.declared.known.word.Field.TheVariants.{Shared}
use Rattle.law.specs.declared.known.word.Word.TheVariants.{Of}
use Rattle.law.specs.known.Items.{WordShows, shared_word, raised}
use Rattle.law.specs.known.Counts.{own_count}
use Rattle.law.proofs.known.Counts_Law.{uncounted, counted}
use Rattle.law.specs.declared.rule.contents.Contents.{Contents}
use Rattle.law.specs.declared.rule.told.Moved.TheVariants as moves
use Rattle.law.specs.declared.rule.told.LogItem.{LogItem}
use Rattle.law.specs.declared.rule.told.LogItem.TheVariants.{Stepped, Lost}
use Rattle.law.specs.declared.rule.view.View.{View}
use Rattle.law.specs.rule.Layout.{spot}
use Rattle.law.specs.rule.Rule.{with_told, Kept}
use Rattle.law.specs.rule.Seen.{counts_seen}
use Rattle.law.specs.steps.Owing.{MayRaiseShared, MayRelease}
use Rattle.law.proofs.rule.Knowing.{Known, is_enabled, meant_there, hand_there}
use Rattle.law.proofs.steps.Local_Steps.{mortal_cell, fits_cell, read_cell}
use Rattle.law.proofs.steps.Numbers.{word_up, word_down, bits_two}
use Rattle.law.proofs.rule.Stepping.{thread_after, thread_enabled}
use Rattle.law.proofs.steps.Plain_Steps.{IsPlain, plain_on, same_owner, stays_on, plain_step, exchange_step}

-- ---- the cell of a reference that the thread has

-- an object that the thread refers to is one of the heap, and alive
pub record HeldCell (h : Heap) (c : ℕ) : Type 0 where
  pub held_is : 1 ≤ held h c
  pub low : c < length h.cells
  pub live : lives (cell_at h c).owner ≡ true

pub held_cell : (n limit : ℕ) (h : Heap) (t : ℕ) (log : List LogItem) (c : ℕ) → Known n limit h t log → 1 ≤ held h c
    → HeldCell h c
held_cell n limit h t log c known holds =
    let live : lives (cell_at h c).owner ≡ true = held_live h c (reached_sound h known.reached) holds in
    record { held_is = holds; low = inside h c (live_owner _ live); live = live }

-- an object that isn't counted by its log
pub not_his : (n limit : ℕ) (h : Heap) (t : ℕ) (log : List LogItem) (c : ℕ) → Known n limit h t log → FIRST_MORTAL ≤ c
    → 1 ≤ held h c → (row_at h t).hand ≡ hands.Free
    → counts_seen n log c ≡ 0 → is_mine t (row_at h t).stage (cell_at h c) ≡ false
not_his n limit h t log c known mortal holds free says = uncounted h t c known.reached mortal holds free
    (known.counts c mortal ∙ says)

-- the counts after an enabled step of a thread fit their words
pub count_after : (h : Heap) (t : ℕ) (s : Step) (c d : ℕ) → IsSound h → 0 < t → thread_may h t s ≡ true
    → target_at h t s ≡ Some c → CountFits (cell_at (stepped h t s c) d).count
count_after h t s c d sound some_thread may named =
    let e : Event = record { thread = t; step = s } in
    let is : after h e ≡ stepped h t s c = thread_after h t s some_thread ∙ ap (after_target h t s) named in
    subst (λ z. CountFits (cell_at z d).count) is
    (sound_range (after h e) (event_sound h e sound (thread_enabled h t s some_thread may)) d)

module _ {B : Type 0} (shows : B → ℕ × Contents) (n limit : ℕ) where
  abbrev Rule : Table (Option B) View → Type 0
  Rule = Kept shows n limit

  -- ---- SharedUp

  beyond : (h : Heap) (t : ℕ) (log : List LogItem) (c : ℕ) → Known n limit h t log → FIRST_MORTAL ≤ c → 1 ≤ held h c
      → (row_at h t).hand ≡ hands.Free
      → (counts_seen n log c ≡ 0) ⊎ (limit ≤ counts_seen n log c) → counts_up_locally limit t (row_at h t).stage
      (cell_at h c) ≡ false
  beyond h t log c known mortal holds free (inl zero) = ap (λ b. b && nat_lt (cell_at h c).local limit)
      (not_his n limit h t log c known mortal holds free zero)
  beyond h t log c known mortal holds free (inr full) =
      let is : own_count t (row_at h t).stage (cell_at h c) ≡ counts_seen n log c = known.counts c mortal in
      let both = counted t (row_at h t).stage (cell_at h c) (omega (arith, is, full, known.options.counts)) in
      ap (λ b. b && nat_lt (cell_at h c).local limit) both.0 ∙ le-ltb _ _ (omega (arith, both.1, is, full))

  shared_up : (h : Heap) (t : ℕ) (log : List LogItem) (source : Source) (k c there : ℕ) → 0 < t → Known n limit h t log
      → MayRaiseShared n limit log source k c → WordShows h (Of Shared c) there
      → IsPlain n h t (SharedUp source k) (Of Shared c) ((there + 4) % 2 ^ 64) there
  shared_up h t log source k c there some_thread known raises shown =
      let s : Step = SharedUp source k in
      let x : Cell = cell_at h c in
      let named : target_at h t s ≡ Some c = meant_there n limit h t log s (Some c) known raises.cell in
      let cell : HeldCell h c = held_cell n limit h t log c known (source_held h t c source named raises.mortal) in
      let free = free_hand _ (hand_there n limit h t log s known raises.own) in
      let may : thread_may h t s ≡ true = is_enabled n limit h t log s some_thread known raises.own refl refl
      (fits_cell n limit h t log s c known named cell.low
      (both_true (ap not (mortal_cell c raises.mortal))
      (ap not (beyond h t log c known raises.mortal cell.held_is free raises.counted)))) in
      let more : CountFits (x.count +ℤ pos 1) = subst (λ (y : Cell). CountFits y.count) (read_cell h t s c cell.low)
      (count_after h t s c c (reached_sound h known.reached) some_thread may named) in
      plain_on n h t s c (Of Shared c) ((there + 4) % 2 ^ 64) there (record {
        may = may;
        target = named;
        word = refl;
        shown = ap (λ m. (m + 4) % 2 ^ 64) shown
            ∙ sym (word_up x.count x.state (reached_count_range h known.reached c) more)
            ∙ sym (ap (λ (y : Cell). shared_word y.count y.state) (read_cell h t s c cell.low));
        told = shown;
        finds_none = refl;
        puts_none = refl;
        takes_none = refl;
        stays = stays_on h t s c cell.low refl refl (same_owner x (cell_after t s c x) refl refl);
      })

  pub counts_up_shared : (id : ℕ) (v : View) (slots : List (ℕ × Option B)) (source : Source) (k c : ℕ) → v.active ≡ true
      → 0 < v.thread → c < n → MayRaiseShared n limit v.log source k c
      → Allows Rule n id (v, slots) (spot n (Of Shared c)) (λ there. (there + 4) % 2 ^ 64)
      (λ there me. me ≡ (with_told (Stepped (SharedUp source k) there moves.Nothing) v, slots))
  counts_up_shared id v slots source k c active some_thread low raises =
      plain_step shows n limit id v slots (SharedUp source k) (Of Shared c) (λ there. (there + 4) % 2 ^ 64)
      (λ there. there) active some_thread low
      (λ h there known shown small. shared_up h v.thread v.log source k c there some_thread known raises shown)

  -- ---- SharedDown

  -- a number that says default and a count above 0 is such a cell's
  default_there : (x : Cell) (old : ℕ) → old ≡ shared_word x.count x.state → old % 4 ≡ 0 → is_default x.state ≡ true
  default_there x old is low = by_state x.state refl
    where
      by_state : (state : State) → x.state ≡ state → is_default state ≡ true
      by_state states.Default at = refl
      by_state states.Queued at = absurd (omega (arith, is, low, ap bits_of at))
      by_state states.Merged at = absurd (omega (arith, is, low, ap bits_of at))

  positive_there : (x : Cell) (old : ℕ) → old ≡ shared_word x.count x.state → bits_of x.state < 4 → 2 ^ 42 + 4 ≤ old
      → CountFits x.count → is_positive x.count ≡ true
  positive_there x old is few high fits = by_count x.count refl
    where
      by_count : (count : Rattle.std.proofs.Common.ℤ) → x.count ≡ count → is_positive count ≡ true
      by_count (pos m) at = lt-ltb 0 m (omega (arith, is, few, high, ap raised at))
      by_count (Rattle.std.proofs.Common.negsuc m) at = absurd (omega (arith, is, few, high, ap raised at))

  shared_down : (h : Heap) (t : ℕ) (log : List LogItem) (drop : Dropped) (c old : ℕ) → 0 < t → Known n limit h t log
      → MayRelease n log (SharedDown drop) c → old % 4 ≡ 0 → 2 ^ 42 + 4 ≤ old
      → WordShows h (Of Shared c) old → IsPlain n h t (SharedDown drop) (Of Shared c) (old - 4) old
  shared_down h t log drop c old some_thread known releases default high shown =
      let s : Step = SharedDown drop in
      let x : Cell = cell_at h c in
      let named : target_at h t s ≡ Some c = meant_there n limit h t log s (Some c) known releases.cell in
      let cell : HeldCell h c = held_cell n limit h t log c known (dropped_held h t c drop named) in
      let free = free_hand _ (hand_there n limit h t log s known releases.own) in
      let others : is_others t (row_at h t).stage c x ≡ true = both_true (ap not (mortal_cell c releases.mortal))
      (ap not (not_his n limit h t log c known releases.mortal cell.held_is free releases.counted)) in
      let range : CountFits x.count = reached_count_range h known.reached c in
      let may : thread_may h t s ≡ true = is_enabled n limit h t log s some_thread known releases.own refl refl
      (fits_cell n limit h t log s c known named cell.low
      (both_true (both_true others (default_there x old shown default))
      (positive_there x old shown (Rattle.law.proofs.steps.Numbers.bits_small x.state) high range))) in
      let less : CountFits (x.count -ℤ pos 1) = subst (λ (y : Cell). CountFits y.count) (read_cell h t s c cell.low)
      (count_after h t s c c (reached_sound h known.reached) some_thread may named) in
      plain_on n h t s c (Of Shared c) (old - 4) old (record {
        may = may;
        target = named;
        word = refl;
        shown = ap (λ m. m - 4) shown ∙ sym (word_down x.count x.state range less)
            ∙ sym (ap (λ (y : Cell). shared_word y.count y.state) (read_cell h t s c cell.low));
        told = shown;
        finds_none = refl;
        puts_none = refl;
        takes_none = refl;
        stays = stays_on h t s c cell.low refl refl (same_owner x (cell_after t s c x) refl refl);
      })

  pub counts_down_shared : (id : ℕ) (v : View) (slots : List (ℕ × Option B)) (drop : Dropped) (c old : ℕ)
      → v.active ≡ true → 0 < v.thread → c < n → MayRelease n v.log (SharedDown drop) c
      → old % 4 ≡ 0 → 2 ^ 42 + 4 ≤ old
      → Allows Rule n id (v, slots) (spot n (Of Shared c)) (λ there. either (there == old) (old - 4) there)
      (λ there me. me ≡ (
        (if there == old then with_told (Stepped (SharedDown drop) old moves.Nothing) v else with_told
            (Lost (Of Shared c) there) v),
        slots,
      ))
  counts_down_shared id v slots drop c old active some_thread low releases default high =
      exchange_step shows n limit id v slots (SharedDown drop) (Of Shared c) old (old - 4) active some_thread low
      (λ h known shown. shared_down h v.thread v.log drop c old some_thread known releases default high shown)

  -- ---- Ask

  -- the word with the bit of queued set
  asked_word : (x : Cell) (t c : ℕ) (drop : Dropped) → shared_word (cell_after t (Ask drop) c x).count
      (cell_after t (Ask drop) c x).state ≡ bit_or (shared_word x.count x.state) 2
  asked_word x t c drop = by_state x.state refl
    where
      by_state : (state : State) → x.state ≡ state → shared_word (cell_after t (Ask drop) c x).count
          (cell_after t (Ask drop) c x).state ≡ bit_or (shared_word x.count x.state) 2
      by_state states.Default at =
          ap (λ z. shared_word (if is_default z then record x { state = states.Queued } else x).count
          (if is_default z then record x { state = states.Queued } else x).state) at
          ∙ sym (ap (λ z. bit_or (shared_word x.count z) 2) at ∙ bits_two (raised x.count) states.Default)
      by_state states.Queued at =
          ap (λ z. shared_word (if is_default z then record x { state = states.Queued } else x).count
          (if is_default z then record x { state = states.Queued } else x).state) at
          ∙ ap (shared_word x.count) at
          ∙ sym (ap (λ z. bit_or (shared_word x.count z) 2) at ∙ bits_two (raised x.count) states.Queued)
      by_state states.Merged at =
          ap (λ z. shared_word (if is_default z then record x { state = states.Queued } else x).count
          (if is_default z then record x { state = states.Queued } else x).state) at
          ∙ ap (shared_word x.count) at
          ∙ sym (ap (λ z. bit_or (shared_word x.count z) 2) at ∙ bits_two (raised x.count) states.Merged)

  asked_owner : (x : Cell) (t c : ℕ) (drop : Dropped) → ((cell_after t (Ask drop) c x).owner ≡ x.owner)
      × ((cell_after t (Ask drop) c x).mutex ≡ x.mutex)
  asked_owner x t c drop = by_test (is_default x.state)
    where
      by_test : (b : Rattle.std.proofs.Common.Bool)
          → ((if b then record x { state = states.Queued } else x).owner ≡ x.owner)
          × ((if b then record x { state = states.Queued } else x).mutex ≡ x.mutex)
      by_test true = (refl, refl)
      by_test false = (refl, refl)

  asks_for : (h : Heap) (t : ℕ) (log : List LogItem) (drop : Dropped) (c there : ℕ) → 0 < t → Known n limit h t log
      → MayRelease n log (Ask drop) c → WordShows h (Of Shared c) there
      → IsPlain n h t (Ask drop) (Of Shared c) (bit_or there 2) there
  asks_for h t log drop c there some_thread known releases shown =
      let s : Step = Ask drop in
      let x : Cell = cell_at h c in
      let named : target_at h t s ≡ Some c = meant_there n limit h t log s (Some c) known releases.cell in
      let cell : HeldCell h c = held_cell n limit h t log c known (dropped_held h t c drop named) in
      let free = free_hand _ (hand_there n limit h t log s known releases.own) in
      let others : is_others t (row_at h t).stage c x ≡ true = both_true (ap not (mortal_cell c releases.mortal))
      (ap not (not_his n limit h t log c known releases.mortal cell.held_is free releases.counted)) in
      plain_on n h t s c (Of Shared c) (bit_or there 2) there (record {
        may = is_enabled n limit h t log s some_thread known releases.own refl refl
            (fits_cell n limit h t log s c known named cell.low others);
        target = named;
        word = refl;
        shown = ap (λ m. bit_or m 2) shown ∙ sym (asked_word x t c drop)
            ∙ sym (ap (λ (y : Cell). shared_word y.count y.state) (read_cell h t s c cell.low));
        told = shown;
        finds_none = refl;
        puts_none = refl;
        takes_none = refl;
        stays = stays_on h t s c cell.low refl refl (same_owner x (cell_after t s c x) (asked_owner x t c drop).0
            (asked_owner x t c drop).1);
      })

  pub asks : (id : ℕ) (v : View) (slots : List (ℕ × Option B)) (drop : Dropped) (c : ℕ) → v.active ≡ true → 0 < v.thread
      → c < n → MayRelease n v.log (Ask drop) c
      → Allows Rule n id (v, slots) (spot n (Of Shared c)) (λ there. bit_or there 2)
      (λ there me. me ≡ (with_told (Stepped (Ask drop) there moves.Nothing) v, slots))
  asks id v slots drop c active some_thread low releases =
      plain_step shows n limit id v slots (Ask drop) (Of Shared c) (λ there. bit_or there 2) (λ there. there) active
      some_thread low
      (λ h there known shown small. asks_for h v.thread v.log drop c there some_thread known releases shown)
