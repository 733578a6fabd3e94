-- The ends of objects: SeeZero, MergeZero, and LastDown of a reference that is a place's or an entry's.
use Rattle.std.proofs.Common.{◌≡◌, ℕ, ◌+◌, ◌-◌, ◌<◌, ◌≤◌, ◌^◌, ◌%◌, not, true, false, pos, ◌-ℤ◌, List, length, Option}
use Rattle.std.proofs.Common.{Some, refl, sym, ◌∙◌, ap, subst, arith}
use Rattle.std.specs.Int.RustNames.{bit_or}
use Rattle.std.specs.Cmp.Derive.{both_true}
use Rattle.atomic_table.specs.Table.{State as Table, Allows}
use Rattle.brc_words.specs.declared.state.State.{State}
use Rattle.brc_words.specs.declared.state.State.TheVariants as states
use Rattle.brc_words.specs.Shared.{CountFits}
use Rattle.law.specs.declared.world.cell.Cell.{Cell}
use Rattle.law.specs.declared.world.event.Dropped.{Dropped}
use Rattle.law.specs.declared.world.event.LastDropped.{LastDropped}
use Rattle.law.specs.declared.world.event.LastDropped.TheVariants as lasts
use Rattle.law.specs.declared.world.event.Step.{Step}
use Rattle.law.specs.declared.world.event.Step.TheVariants.{SeeZero, MergeZero, LastDown}
use Rattle.law.specs.declared.world.row.Hand.TheVariants as hands
use Rattle.law.specs.declared.world.row.Phase.TheVariants as phases
use Rattle.law.specs.world.Lists.{is_marked}
use Rattle.law.specs.world.Heap.{Heap, cell_at, row_at, worklist_at}
use Rattle.law.specs.world.Holding.{lives}
use Rattle.law.specs.world.Sound.{held}
use Rattle.law.specs.world.Steps.{thread_may, target_at, cell_after, is_default, last_ok, takes_block}
use Rattle.law.proofs.world.Asking.{May, may_parts}
use Rattle.law.proofs.world.Counting.{held_unmarked}
use Rattle.law.proofs.world.Dropping.{dropped_held}
use Rattle.law.proofs.world.Naming.{free_hand, busy_hand, one-false}
use Rattle.law.proofs.world.Reached.{reached_sound}
use Rattle.law.proofs.world.Sizes.{reached_count_range}
use Rattle.law.specs.lasting.Staying.{PhaseTells, rank}
use Rattle.law.proofs.lasting.Lasting.{live_owner}
use Rattle.law.proofs.lasting.Progress.{inside}
use Rattle.law.proofs.lasting.Ranges_Law.{hand_unmarked}
use Rattle.law.proofs.lasting.Telling.{hand_tells}
use Rattle.law.specs.declared.known.word.Field.TheVariants.{Shared}
use Rattle.law.specs.declared.known.word.Word.TheVariants.{Of}
use Rattle.law.specs.known.Items.{WordShows, shared_word, raised, told_of, cell_told}
use Rattle.law.proofs.known.Items_Told.{alike}
use Rattle.law.specs.declared.rule.contents.Contents.{Contents}
use Rattle.law.specs.declared.rule.told.LogItem.{LogItem}
use Rattle.law.specs.declared.rule.view.View.{View}
use Rattle.law.specs.rule.Layout.{spot}
use Rattle.law.specs.rule.Rule.{Kept}
use Rattle.law.specs.steps.Owing.{MayCarry, EndsRisen}
use Rattle.law.specs.steps.Taking.{EndedObject}
use Rattle.law.proofs.rule.Knowing.{Known, is_enabled, meant_there, hand_there}
use Rattle.law.proofs.steps.Local_Steps.{mortal_cell, fits_cell, read_cell}
use Rattle.law.proofs.steps.Numbers.{word_taken, bits_three}
use Rattle.law.proofs.steps.Plain_Steps.{same_owner}
use Rattle.law.proofs.steps.Shared_Steps.{HeldCell, held_cell, not_his, count_after}
use Rattle.law.proofs.steps.Taking_Steps.{EndsOn, end_step}

-- the number that is found tells whether the block is taken
pub tells : (n limit : ℕ) (h : Heap) (t : ℕ) (log : List LogItem) (s : Step) (c there : ℕ) → Known n limit h t log
    → May h t s
    → target_at h t s ≡ Some c → there ≡ told_of h t s c
    → takes_block s (cell_told s there) ≡ takes_block s (cell_at h c)
tells n limit h t log s c there known may named is =
    ap (λ m. takes_block s (cell_told s m)) is
    ∙ (alike h t s c (reached_sound h known.reached) known.queues may named).takes

module _ {B : Type 0} (shows : B → ℕ × Contents) (n limit : ℕ) where
  abbrev Rule : Table (Option B) View → Type 0
  Rule = Kept shows n limit

  -- ---- SeeZero

  sees_zero : (h : Heap) (t : ℕ) (log : List LogItem) (c there : ℕ) → 0 < t → Known n limit h t log
      → MayCarry n log (SeeZero c) c → WordShows h (Of Shared c) there
      → EndsOn h t (SeeZero c) c (Of Shared c) there there
  sees_zero h t log c there some_thread known carries shown =
      let s : Step = SeeZero c in
      let x : Cell = cell_at h c in
      let busy : (row_at h t).hand ≡ hands.Busy phases.Zero c = busy_hand phases.Zero c _
      (hand_there n limit h t log s known carries.own) in
      let said : PhaseTells t phases.Zero x = (hand_tells h t c phases.Zero known.reached busy).1 in
      let live : lives x.owner ≡ true = ap lives said.0 in
      let low : c < length h.cells = inside h c (live_owner _ live) in
      let may : thread_may h t s ≡ true = is_enabled n limit h t log s some_thread known carries.own refl refl
      (fits_cell n limit h t log s c known refl low refl) in
      record {
        may = may;
        target = refl;
        low = low;
        word = refl;
        shown = shown ∙ sym (ap (λ (y : Cell). shared_word y.count y.state) (read_cell h t s c low));
        told = shown;
        puts_none = refl;
        finds_taken = refl;
        frees_none = refl;
        number_tells = tells n limit h t log s c there known (may_parts h t s may) refl shown;
        stays = same_owner x (cell_after t s c x) refl refl;
        live = live;
        same_owner = refl;
        unmarked = λ u. hand_unmarked h t u c phases.Zero known.reached busy;
      }

  pub ends_at_zero : (id : ℕ) (v : View) (slots : List (ℕ × Option B)) (c : ℕ) → v.active ≡ true → 0 < v.thread → c < n
      → MayCarry n v.log (SeeZero c) c
      → Allows Rule n id (v, slots) (spot n (Of Shared c)) (λ there. there)
      (λ there me. EndedObject shows n v slots (SeeZero c) c there
      (takes_block (SeeZero c) (cell_told (SeeZero c) there)) me)
  ends_at_zero id v slots c active some_thread low carries =
      end_step shows n limit id v slots (SeeZero c) c (Of Shared c) (λ there. there) active some_thread low low
      (λ h there known shown small. sees_zero h v.thread v.log c there some_thread known carries shown)

  -- ---- MergeZero

  merged_zero : (h : Heap) (t : ℕ) (log : List LogItem) (c there : ℕ) → 0 < t → Known n limit h t log
      → MayCarry n log (MergeZero c) c → WordShows h (Of Shared c) there
      → EndsOn h t (MergeZero c) c (Of Shared c) (bit_or there 3) there
  merged_zero h t log c there some_thread known carries shown =
      let s : Step = MergeZero c in
      let x : Cell = cell_at h c in
      let busy : (row_at h t).hand ≡ hands.Busy phases.Untied c = busy_hand phases.Untied c _
      (hand_there n limit h t log s known carries.own) in
      let said : PhaseTells t phases.Untied x = (hand_tells h t c phases.Untied known.reached busy).1 in
      let live : lives x.owner ≡ true = ap lives said.0 in
      let low : c < length h.cells = inside h c (live_owner _ live) in
      let may : thread_may h t s ≡ true = is_enabled n limit h t log s some_thread known carries.own refl refl
      (fits_cell n limit h t log s c known refl low refl) in
      record {
        may = may;
        target = refl;
        low = low;
        word = refl;
        shown = ap (λ m. bit_or m 3) shown ∙ bits_three (raised x.count) x.state
            ∙ sym (ap (λ (y : Cell). shared_word y.count y.state) (read_cell h t s c low));
        told = shown;
        puts_none = refl;
        finds_taken = refl;
        frees_none = refl;
        number_tells = tells n limit h t log s c there known (may_parts h t s may) refl shown;
        stays = same_owner x (cell_after t s c x) refl refl;
        live = live;
        same_owner = refl;
        unmarked = λ u. hand_unmarked h t u c phases.Untied known.reached busy;
      }

  pub merges_at_zero : (id : ℕ) (v : View) (slots : List (ℕ × Option B)) (c : ℕ) → v.active ≡ true → 0 < v.thread
      → c < n → MayCarry n v.log (MergeZero c) c
      → Allows Rule n id (v, slots) (spot n (Of Shared c)) (λ there. bit_or there 3)
      (λ there me. EndedObject shows n v slots (MergeZero c) c there
      (takes_block (MergeZero c) (cell_told (MergeZero c) there)) me)
  merges_at_zero id v slots c active some_thread low carries =
      end_step shows n limit id v slots (MergeZero c) c (Of Shared c) (λ there. bit_or there 3) active
      some_thread low low
      (λ h there known shown small. merged_zero h v.thread v.log c there some_thread known carries shown)

  -- ---- LastDown

  -- the reference is there, and what the step asks of its cell
  pub record LastFits (h : Heap) (t : ℕ) (log : List LogItem) (last : LastDropped) (c : ℕ) : Type 0 where
    pub own : Rattle.law.specs.rule.Seen.own_may n (Rattle.law.specs.rule.Seen.part_seen n log) (LastDown last) ≡ true
    pub named : target_at h t (LastDown last) ≡ Some c
    pub holds : 1 ≤ held h c
    pub risen : is_default (cell_at h c).state ≡ false
    pub fits : last_ok t (row_at h t) last c (cell_at h c) ≡ true

  pub last_down : (h : Heap) (t : ℕ) (log : List LogItem) (last : LastDropped) (c there : ℕ) → 0 < t
      → Known n limit h t log → LastFits h t log last c → WordShows h (Of Shared c) there
      → EndsOn h t (LastDown last) c (Of Shared c) ((there + (2 ^ 64 - 4)) % 2 ^ 64) there
  last_down h t log last c there some_thread known ends shown =
      let s : Step = LastDown last in
      let x : Cell = cell_at h c in
      let cell : HeldCell h c = held_cell n limit h t log c known ends.holds in
      let may : thread_may h t s ≡ true = is_enabled n limit h t log s some_thread known ends.own refl refl
      (fits_cell n limit h t log s c known ends.named cell.low (both_true (ap not ends.risen) ends.fits)) in
      let less : CountFits (x.count -ℤ pos 1) = subst (λ (y : Cell). CountFits y.count) (read_cell h t s c cell.low)
      (count_after h t s c c (reached_sound h known.reached) some_thread may ends.named) in
      record {
        may = may;
        target = ends.named;
        low = cell.low;
        word = refl;
        shown = ap (λ m. (m + (2 ^ 64 - 4)) % 2 ^ 64) shown
            ∙ sym (word_taken x.count x.state (reached_count_range h known.reached c) less)
            ∙ sym (ap (λ (y : Cell). shared_word y.count y.state) (read_cell h t s c cell.low));
        told = shown;
        puts_none = refl;
        finds_taken = refl;
        frees_none = refl;
        number_tells = tells n limit h t log s c there known (may_parts h t s may) ends.named shown;
        stays = same_owner x (cell_after t s c x) refl refl;
        live = cell.live;
        same_owner = refl;
        unmarked = λ u. one-false (is_marked (worklist_at h u) c)
            (held_unmarked h u c (reached_sound h known.reached) cell.held_is);
      }

  risen_state : (state : State) → 1 ≤ rank state → is_default state ≡ false
  risen_state states.Default high = absurd (omega (arith, high))
  risen_state states.Queued high = refl
  risen_state states.Merged high = refl

  risen_last : (h : Heap) (t : ℕ) (log : List LogItem) (drop : Dropped) (c : ℕ) → Known n limit h t log
      → EndsRisen n log drop c → LastFits h t log (lasts.Dropped drop) c
  risen_last h t log drop c known ends =
      let s : Step = LastDown (lasts.Dropped drop) in
      let named : target_at h t s ≡ Some c = meant_there n limit h t log s (Some c) known ends.cell in
      let holds : 1 ≤ held h c = dropped_held h t c drop named in
      let free = free_hand _ (hand_there n limit h t log s known ends.own) in
      record {
        own = ends.own;
        named = named;
        holds = holds;
        risen = risen_state (cell_at h c).state (known.risen drop c ends.risen ends.mortal);
        fits = both_true (ap not (mortal_cell c ends.mortal))
            (ap not (not_his n limit h t log c known ends.mortal holds free ends.counted));
      }

  pub counts_last : (id : ℕ) (v : View) (slots : List (ℕ × Option B)) (drop : Dropped) (c : ℕ) → v.active ≡ true
      → 0 < v.thread → c < n → EndsRisen n v.log drop c
      → Allows Rule n id (v, slots) (spot n (Of Shared c)) (λ there. (there + (2 ^ 64 - 4)) % 2 ^ 64)
      (λ there me. EndedObject shows n v slots (LastDown (lasts.Dropped drop)) c there
      (takes_block (LastDown (lasts.Dropped drop)) (cell_told (LastDown (lasts.Dropped drop)) there)) me)
  counts_last id v slots drop c active some_thread low ends =
      end_step shows n limit id v slots (LastDown (lasts.Dropped drop)) c (Of Shared c)
      (λ there. (there + (2 ^ 64 - 4)) % 2 ^ 64) active some_thread low low
      (λ h there known shown small. last_down h v.thread v.log (lasts.Dropped drop) c there some_thread known
      (risen_last h v.thread v.log drop c known ends) shown)
