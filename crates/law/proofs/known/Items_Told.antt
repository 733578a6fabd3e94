-- What the number that a step is told says of its cell: as much as the step's effect on its thread rests on.
use Rattle.std.proofs.Common.{◌≡◌, ℕ, ◌+◌, ◌-◌, ◌*◌, ◌/◌, ◌%◌, ◌<◌, ◌≤◌, ◌==◌, ◌&&◌, ◌||◌, not, Bool, true, false}
use Rattle.std.proofs.Common.{if◌then◌else◌, ℤ, pos, negsuc, ◌+ℤ◌, ◌*ℤ◌, ◌≤ℤ◌, Some, refl, sym, ◌∙◌, ap, subst, inl}
use Rattle.std.proofs.Common.{inr, arith, ◌^◌}
use Rattle.std.proofs.lemmas.Bool.{cases_Bool, le-leb, lt-leb, ltb-false}
use Rattle.std.proofs.lemmas.Int.{ints}
use Rattle.brc_words.specs.declared.limits.TheConstants.{FIRST_MORTAL}
use Rattle.brc_words.specs.Shared.{Spells, bits_of}
use Rattle.brc_words.specs.declared.state.State.{State}
use Rattle.brc_words.specs.declared.state.State.TheVariants as states
use Rattle.law.specs.declared.world.cell.Cell.{Cell}
use Rattle.law.specs.declared.world.event.Dropped.{Dropped}
use Rattle.law.specs.declared.world.event.LastDropped.TheVariants as lasts
use Rattle.law.specs.declared.world.event.Step.{Step}
use Rattle.law.specs.declared.world.event.Step.TheVariants.{LocalDown, SeeZero, MergeZero, MergeAdd, Ask, LastDown}
use Rattle.law.specs.declared.world.event.Step.TheVariants.{Enqueue, Lock}
use Rattle.law.specs.declared.world.row.Hand.{Hand}
use Rattle.law.specs.declared.world.row.Hand.TheVariants as hands
use Rattle.law.specs.declared.world.row.Phase.TheVariants as phases
use Rattle.law.specs.world.Lists.{word_at}
use Rattle.law.specs.world.Heap.{Heap, cell_at, row_at, queue_at, no_cell, is_immortal}
use Rattle.law.specs.world.Steps.{target_at, target_ok, hand_after, gone, takes_block, is_shut, is_mine, is_zero}
use Rattle.law.specs.world.Runs.{IsReached}
use Rattle.law.specs.world.Sound.{IsSound}
use Rattle.law.specs.known.Items.{raised, shared_word, closing_bit, told_of, finds, count_told, state_told, cell_told}
use Rattle.law.specs.known.Items.{is_shut_word}
use Rattle.law.proofs.world.Asking.{May, OnCell, on_cell, Mine, mine}
use Rattle.law.proofs.world.Naming.{free_hand, grips_free}
use Rattle.law.proofs.world.Counting.{owned_ungripped, local_positive}
use Rattle.law.proofs.world.Dropping.{dropped_held}
use Rattle.law.proofs.world.Sizes.{sound_range}
use Rattle.law.proofs.world.Reached.{reached_sound}

-- ---- plain numbers

count_back : (count : ℤ) (bits : ℕ) → bits < 4 → negsuc (2 ^ 40 - 1) ≤ℤ count
    → count_told (raised count * 4 + bits) ≡ count
count_back (pos n) bits few low = omega (arith, ints)
count_back (negsuc n) bits few low = omega (arith, ints, low)

bits_few : (state : State) → bits_of state < 4
bits_few states.Default = omega arith
bits_few states.Queued = omega arith
bits_few states.Merged = omega arith

by_rest : ℕ → State
by_rest r = if r == 0 then states.Default else (if r == 2 then states.Queued else states.Merged)

state_back : (k : ℕ) (state : State) → state_told (k * 4 + bits_of state) ≡ state
unfolding by_rest
state_back k states.Default = let e : (k * 4 + 0) % 4 ≡ 0 = omega arith in ap by_rest e
state_back k states.Queued = let e : (k * 4 + 2) % 4 ≡ 2 = omega arith in ap by_rest e
state_back k states.Merged = let e : (k * 4 + 3) % 4 ≡ 3 = omega arith in ap by_rest e

spelled_back : (count : ℤ) (bits : ℕ) → bits < 4 → negsuc (2 ^ 40 - 1) ≤ℤ count
    → pos (raised count * 4 + bits) ≡ ((count +ℤ pos (2 ^ 40)) *ℤ pos 4) +ℤ pos bits
spelled_back (pos n) bits few low = omega (arith, ints)
spelled_back (negsuc n) bits few low = omega (arith, ints, low)

-- in every reached world each shared word spells count and state
pub reached_spelled : (h : Heap) → IsReached h → (c : ℕ) → Spells (shared_word (cell_at h c).count (cell_at h c).state)
    (cell_at h c).count (cell_at h c).state
reached_spelled h reached c = record {
  spelled = spelled_back (cell_at h c).count (bits_of (cell_at h c).state) (bits_few (cell_at h c).state)
      (sound_range h (reached_sound h reached) c).0;
}

shut_back : (w : ℕ) (b : Bool) → w < 9223372036854775808 → is_shut_word (w + closing_bit b) ≡ b
shut_back w true small = le-leb _ _ (omega arith)
shut_back w false small = lt-leb _ _ (omega (arith, small))

-- ---- what a step is told is what it finds

-- no bits stand above those of the queue words
pub record QueuesFit (h : Heap) : Type 0 where
  pub small : (t k : ℕ) → word_at (queue_at h t) k < 4294967296

-- the cell as it was told acts on the thread as the cell does
pub record Alike (h : Heap) (s : Step) (c number : ℕ) : Type 0 where
  pub hand : (g : Hand) → hand_after s c (cell_told s number) (is_shut_word number) g ≡ hand_after s c (cell_at h c)
      (is_shut h c) g
  pub gone_is : gone s (cell_told s number) ≡ gone s (cell_at h c)
  pub takes : takes_block s (cell_told s number) ≡ takes_block s (cell_at h c)

-- what a shared word says
heard : ℤ → State → Cell
heard count state = record no_cell { count = count; state = state }

both_back : (h : Heap) (c : ℕ) → IsSound h → heard (count_told (shared_word (cell_at h c).count (cell_at h c).state))
    (state_told (shared_word (cell_at h c).count (cell_at h c).state))
    ≡ heard (cell_at h c).count (cell_at h c).state
both_back h c sound =
    let x : Cell = cell_at h c in
    let count : count_told (shared_word x.count x.state) ≡ x.count = count_back x.count (bits_of x.state)
    (bits_few x.state) (sound_range h sound c).0 in
    let state : state_told (shared_word x.count x.state) ≡ x.state = state_back (raised x.count) x.state in
    ap (λ n. heard n (state_told (shared_word x.count x.state))) count ∙ ap (heard x.count) state

-- the sum that an add is told is the one that it leaves
sum_back : (h : Heap) (c : ℕ) → IsSound h
    → count_told (shared_word ((cell_at h c).count +ℤ pos (cell_at h c).local) states.Merged) +ℤ pos 0
    ≡ (cell_at h c).count +ℤ pos (cell_at h c).local
sum_back h c sound =
    let x : Cell = cell_at h c in
    let count : count_told (shared_word (x.count +ℤ pos x.local) states.Merged) ≡ x.count +ℤ pos x.local =
    count_back (x.count +ℤ pos x.local) (bits_of states.Merged) (bits_few states.Merged)
    (omega (arith, ints, (sound_range h sound c).0)) in
    omega (arith, ints, count)

down_back : (h : Heap) (t c : ℕ) (drop : Dropped) → IsSound h → May h t (LocalDown drop)
    → target_at h t (LocalDown drop) ≡ Some c → (g : Hand)
    → hand_after (LocalDown drop) c (record no_cell { local = told_of h t (LocalDown drop) c + 1 }) false g ≡ hand_after
    (LocalDown drop) c (cell_at h c) false g
down_back h t c drop sound may named g =
    let x : Cell = cell_at h c in
    elim (cases_Bool (is_immortal c)) [
      | inl immortal ↦ ap (λ b. if not b && (told_of h t (LocalDown drop) c + 1 == 1) then hands.Busy phases.Zero
          c else g) immortal
          ∙ sym (ap (λ b. if not b && (x.local == 1) then hands.Busy phases.Zero c else g) immortal)
      | inr mortal ↦
          let high : FIRST_MORTAL ≤ c = ltb-false c FIRST_MORTAL mortal in
          let at_cell : OnCell h t (LocalDown drop) c = on_cell h t (LocalDown drop) c
          (subst (λ o. target_ok h t (row_at h t) (LocalDown drop) o ≡ true) named may.on_target) in
          let own : Mine t (row_at h t).stage x =
          mine t _ _ (subst (λ b. (b || is_mine t (row_at h t).stage x) ≡ true) mortal at_cell.fits) in
          let some_count : 1 ≤ x.local = local_positive h t c sound high own.owner
          (owned_ungripped h t c sound high own.owner (dropped_held h t c drop named)
          (grips_free c _ (free_hand _ may.hand))) in
          let stored : told_of h t (LocalDown drop) c ≡ x.local - 1 =
          ap (λ b. let y : Cell = if b then x else record x { local = x.local - 1 } in y.local) mortal in
          let back : told_of h t (LocalDown drop) c + 1 ≡ x.local = omega (arith, some_count, stored) in
          ap (λ k. if not (is_immortal c) && (k == 1) then hands.Busy phases.Zero c else g) back
    ]

pub alike : (h : Heap) (t : ℕ) (s : Step) (c : ℕ) → IsSound h → QueuesFit h → May h t s → target_at h t s ≡ Some c
    → Alike h s c (told_of h t s c)
unfolding heard
alike h t (LocalDown drop) c sound fit may named = record {
  hand = down_back h t c drop sound may named;
  gone_is = refl;
  takes = refl;
}
alike h t (SeeZero d) c sound fit may named = record {
  hand = λ g. ap (λ y. hand_after (SeeZero d) c y false g) (both_back h c sound);
  gone_is = refl;
  takes = ap (takes_block (SeeZero d)) (both_back h c sound);
}
alike h t (MergeZero d) c sound fit may named =
    record { hand = λ g. refl; gone_is = refl; takes = ap (takes_block (MergeZero d)) (both_back h c sound) }
alike h t (MergeAdd d) c sound fit may named =
    record { hand = λ g. refl; gone_is = refl; takes = ap is_zero (sum_back h c sound) }
alike h t (Ask drop) c sound fit may named = record {
  hand = λ g. ap (λ y. hand_after (Ask drop) c y false g) (both_back h c sound);
  gone_is = ap (gone (Ask drop)) (both_back h c sound);
  takes = refl;
}
alike h t (LastDown (lasts.Dropped drop)) c sound fit may named =
    record {
      hand = λ g. refl;
      gone_is = refl;
      takes = ap (takes_block (LastDown (lasts.Dropped drop)))
          (both_back h c sound);
    }
alike h t (LastDown (lasts.Popped d)) c sound fit may named =
    record {
      hand = λ g. refl;
      gone_is = refl;
      takes = ap (takes_block (LastDown (lasts.Popped d)))
          (both_back h c sound);
    }
alike h t (LastDown lasts.Hand) c sound fit may named =
    record { hand = λ g. refl; gone_is = refl; takes = ap (takes_block (LastDown lasts.Hand)) (both_back h c sound) }
alike h t (Enqueue d) c sound fit may named = record {
  hand = λ g. ap (λ b. if b then hands.Busy phases.Shut c else hands.Free)
      (shut_back _ (is_shut h c) (omega (arith, fit.small (cell_at h c).bearer (c / 32))));
  gone_is = refl;
  takes = refl;
}
alike h t _ c sound fit may named = record { hand = λ g. refl; gone_is = refl; takes = refl }

-- and finds what it finds
pub finds_alike : (h : Heap) (s : Step) (c number : ℕ) → Alike h s c number
    → finds s (cell_told s number) ≡ finds s (cell_at h c)
finds_alike h (Lock k) c number same = refl
finds_alike h _ c number same = same.takes
