-- MergeAdd: the local count joins the shared one, and the object is merged.
use Rattle.std.proofs.Common.{◌≡◌, ◌≢◌, ℕ, ◌+◌, ◌*◌, ◌<◌, ◌≤◌, ◌/◌, ◌%◌, ◌^◌, ◌&&◌, not, true, false, if◌then◌else◌, pos, ◌+ℤ◌, List}
use Rattle.std.proofs.Common.{[], length, Option, Some, None, refl, sym, ◌∙◌, ap, subst, inl, inr, arith}
use Rattle.std.proofs.lemmas.Int.{ints}
use Rattle.std.proofs.lemmas.Bool.{and_parts, eq-eqb, true≢false}
use Rattle.std.specs.Cmp.Derive.{both_true}
use Rattle.atomic_table.specs.Table.{State as Table, Allows}
use Rattle.brc_words.specs.declared.limits.TheConstants.{FIRST_MORTAL}
use Rattle.brc_words.specs.declared.state.State.TheVariants as states
use Rattle.brc_words.specs.Shared.{CountFits}
use Rattle.law.specs.declared.world.cell.Cell.{Cell}
use Rattle.law.specs.declared.world.event.Step.{Step}
use Rattle.law.specs.declared.world.event.Step.TheVariants.{MergeAdd, Register, Untie}
use Rattle.law.specs.declared.world.row.Hand.TheVariants as hands
use Rattle.law.specs.declared.world.row.Phase.{Phase}
use Rattle.law.specs.declared.world.row.Phase.TheVariants as phases
use Rattle.law.specs.world.Heap.{Heap, cell_at, entries_at, row_at}
use Rattle.law.specs.world.Holding.{lives, count_of_state}
use Rattle.law.specs.world.Runs.{IsReached}
use Rattle.law.specs.world.Sound.{IsSound, held}
use Rattle.law.specs.world.Steps.{thread_may, cell_after, takes_block, is_active, is_mine, is_owned_by, is_shut_hand}
use Rattle.law.specs.world.Steps.{edition_ok}
use Rattle.law.proofs.world.Merging.{popped_held, nonzero}
use Rattle.law.proofs.world.Naming.{live_counts}
use Rattle.law.proofs.world.Reached.{reached_sound}
use Rattle.law.proofs.world.Sizes.{reached_count_range}
use Rattle.law.specs.lasting.Staying.{StaysMerging}
use Rattle.law.proofs.lasting.Lasting.{live_owner}
use Rattle.law.proofs.lasting.Progress.{inside}
use Rattle.law.proofs.lasting.Telling.{hand_tells, merging_lasts, yielding_lasts}
use Rattle.law.specs.declared.known.word.Field.TheVariants.{Shared}
use Rattle.law.specs.declared.known.word.Word.TheVariants.{Of}
use Rattle.law.specs.known.Items.{WordShows, shared_word, cell_told}
use Rattle.law.specs.declared.rule.contents.Contents.{Contents}
use Rattle.law.specs.declared.rule.told.Moved.TheVariants as moves
use Rattle.law.specs.declared.rule.told.LogItem.{LogItem}
use Rattle.law.specs.declared.rule.told.LogItem.TheVariants.{Stepped}
use Rattle.law.specs.declared.rule.view.View.{View}
use Rattle.law.specs.rule.Layout.{spot}
use Rattle.law.specs.rule.Rule.{with_told, Kept}
use Rattle.law.specs.steps.Owing.{AddsLocal, MayYield}
use Rattle.law.specs.steps.Taking.{CountsSome}
use Rattle.law.proofs.rule.Knowing.{Known, is_enabled, known_edition}
use Rattle.law.proofs.steps.Local_Steps.{fits_cell, read_cell}
use Rattle.law.proofs.steps.Numbers.{word_merged}
use Rattle.law.proofs.steps.Plain_Steps.{IsPlain, plain_on, same_owner, stays_on, plain_step}
use Rattle.law.proofs.steps.Shared_Steps.{count_after}
use Rattle.law.proofs.steps.Telling.{tells_found}
use Rattle.law.proofs.rule.Since.{since_count}
use Rattle.law.proofs.rule.Stepping.{moved_on}
use Rattle.law.proofs.rule.Noting.{hand_in, merging_words}
use Rattle.law.specs.rule.Seen.{part_seen, counts_seen, own_may}
use Rattle.law.specs.lasting.Staying.{Yields as HandsOver}
use Rattle.law.proofs.lasting.Adding_Hands.{pops_active}
use Rattle.law.proofs.lasting.Ranges_Law.{hand_unmarked}
use Rattle.law.proofs.world.Asking.{May, may_parts, mine, UntieWay, at_end, shut_out, handed_over, from_queue, untie_way}
use Rattle.brc_words.specs.declared.owner.Owner.TheVariants as owners
use Rattle.law.specs.steps.Taking.{EndedObject}
use Rattle.law.proofs.steps.Taking_Steps.{EndsOn, end_step_as}
use Rattle.law.proofs.steps.Ending_Steps.{tells}
use Rattle.law.proofs.steps.Untying_Steps.{hand_active}

-- ---- what both ways have in common

-- the object is in the thread's hand to be merged, and its local count is the one that was noted
record Sums (h : Heap) (t c local : ℕ) (p : Phase) : Type 0 where
  hand : (row_at h t).hand ≡ hands.Busy p c
  owner : (cell_at h c).owner ≡ owners.Nobody
  state : (cell_at h c).state ≡ states.Queued
  count : (cell_at h c).local ≡ local
  active : is_active (row_at h t).stage ≡ true

sums_inside : (h : Heap) (t c local : ℕ) (p : Phase) → Sums h t c local p → c < length h.cells
sums_inside h t c local p now = inside h c (live_owner _ (ap lives now.owner))

may_add : (n limit : ℕ) (h : Heap) (t : ℕ) (log : List LogItem) (c local : ℕ) (p : Phase) → 0 < t
    → Known n limit h t log
    → own_may n (part_seen n log) (MergeAdd c) ≡ true → Sums h t c local p → thread_may h t (MergeAdd c) ≡ true
may_add n limit h t log c local p some_thread known own now =
    is_enabled n limit h t log (MergeAdd c) some_thread known own now.active refl
    (fits_cell n limit h t log (MergeAdd c) c known refl (sums_inside h t c local p now) refl)

-- what the word is after it: the sum, of a merged object
sum_stored : (n limit : ℕ) (h : Heap) (t : ℕ) (log : List LogItem) (c local there : ℕ) (p : Phase) → 0 < t
    → Known n limit h t log → own_may n (part_seen n log) (MergeAdd c) ≡ true → Sums h t c local p
    → WordShows h (Of Shared c) there
    → (there + (local * 4 + 1)) % 2 ^ 64 ≡ shared_word ((cell_at h c).count +ℤ pos (cell_at h c).local) states.Merged
sum_stored n limit h t log c local there p some_thread known own now shown =
    let s : Step = MergeAdd c in
    let x : Cell = cell_at h c in
    let sound : IsSound h = reached_sound h known.reached in
    let low : c < length h.cells = sums_inside h t c local p now in
    let mortal : FIRST_MORTAL ≤ c = (hand_tells h t c p known.reached now.hand).0 in
    let more : CountFits (x.count +ℤ pos local) = subst (λ m. CountFits (x.count +ℤ pos m)) now.count
    (subst (λ (y : Cell). CountFits y.count) (read_cell h t s c low)
    (count_after h t s c c sound some_thread (may_add n limit h t log c local p some_thread known own now) refl)) in
    let few : local < 2 ^ 33 = omega (
      arith,
      (sound.cells c mortal).limited (ap lives now.owner),
      now.count,
      known.limit_is,
      known.options.below_immortal,
    ) in
    ap (λ m. (m + (local * 4 + 1)) % 2 ^ 64) (shown ∙ ap (shared_word x.count) now.state)
    ∙ sym (word_merged x.count local (reached_count_range h known.reached c) more few)
    ∙ ap (λ m. shared_word (x.count +ℤ pos m) states.Merged) (sym now.count)

-- ---- since the object was untied

no_register : (t c : ℕ) → Untie c ≢ Register t
no_register t c bad = absurd (cc)

-- it was the thread's own, and the thread was active
untied_mine : (n limit : ℕ) (h : Heap) (t : ℕ) (log : List LogItem) (c : ℕ) → May h t (Untie c) → Known n limit h t log
    → is_mine t (row_at h t).stage (cell_at h c) ≡ true
untied_mine n limit h t log c may known =
    let two : (is_active (row_at h t).stage && not (is_shut_hand (row_at h t).hand)) ≡ true =
    subst (λ e. edition_ok e (row_at h t) (Untie c) ≡ true) (known_edition n limit h t log known) may.edition in
    let parts = and_parts _ _ two in
    both_true (ap (is_owned_by t) (by_way (untie_way h t c (reached_sound h known.reached) may) parts.1)
    ∙ eq-eqb t t refl) parts.0
  where
    by_way : UntieWay h t c → not (is_shut_hand (row_at h t).hand) ≡ true → (cell_at h c).owner ≡ owners.Thread t
    by_way (at_end hand owner) unshut = owner
    by_way (shut_out hand owned first) unshut =
        absurd (true≢false (sym unshut ∙ ap (λ g. not (is_shut_hand g)) hand))
    by_way (handed_over hand owner) unshut = owner
    by_way (from_queue hand bit owner) unshut = owner

-- the step leaves its local count, which is what the log told before
untied_count : (n limit : ℕ) (h : Heap) (t : ℕ) (log : List LogItem) (c local : ℕ) → FIRST_MORTAL ≤ c
    → May h t (Untie c) → Known n limit h t log → counts_seen n log c ≡ local
    → (cell_at (moved_on h t (Untie c)) c).local ≡ local
untied_count n limit h t log c local mortal may known says =
    let x : Cell = cell_at h c in
    let his : is_mine t (row_at h t).stage x ≡ true = untied_mine n limit h t log c may known in
    let low : c < length h.cells = inside h c
    (λ free. not_free (sym (mine t (row_at h t).stage x his).owner ∙ free)) in
    ap (λ (y : Cell). y.local) (read_cell h t (Untie c) c low)
    ∙ sym (ap (λ b. if b then x.local else 0) his) ∙ known.counts c mortal ∙ says
  where
    not_free : owners.Thread t ≡ owners.Free → ⊥
    not_free bad = absurd (cc)

-- ---- for a popped entry

untied_popped : (h : Heap) (t c local : ℕ) → IsReached h → (row_at h t).hand ≡ hands.Busy phases.Popping c
    → (cell_at h c).local ≡ local → StaysMerging h t c local phases.Popping
untied_popped h t c local reached busy count =
    let words = merging_words h t c phases.Popping reached busy (inl refl) in
    record { hand = busy; phase = inr refl; owner = words.0; state = words.1; count = count }

-- the local count is what the log told before, since nobody else counts on it
merges_now : (n limit : ℕ) (h : Heap) (t : ℕ) (log : List LogItem) (c local : ℕ) → 0 < t → Known n limit h t log
    → AddsLocal n log c local → Sums h t c local phases.Popping
merges_now n limit h t log c local some_thread known adds =
    let busy : (row_at h t).hand ≡ hands.Busy phases.Popping c =
    hand_in n limit h t log log (hands.Busy phases.Popping c) known refl adds.hand in
    let mortal : FIRST_MORTAL ≤ c = (hand_tells h t c phases.Popping known.reached busy).0 in
    let merges : StaysMerging h t c local phases.Popping = since_count n limit h t log (Untie c) c local
    (λ z. StaysMerging z t c local phases.Popping) some_thread known adds.untied (adds.counted mortal)
    (no_register t c) (merging_lasts t c local phases.Popping)
    (λ old before later may was says now same. untied_popped (moved_on old t (Untie c)) t c local now.reached
    (hand_in n limit (moved_on old t (Untie c)) t later log (hands.Busy phases.Popping c) now same adds.hand)
    (untied_count n limit old t before c local mortal may was says)) in
    record {
      hand = merges.hand;
      owner = merges.owner;
      state = merges.state;
      count = merges.count;
      active = pops_active h t c known.reached (known_edition n limit h t log known) merges.hand;
    }

-- the object counts the reference with which it is merged
merging_held : (h : Heap) (t c local : ℕ) → IsReached h → Sums h t c local phases.Popping → 1 ≤ held h c
merging_held h t c local reached now = popped_held h t c
    ((reached_sound h reached).hands t c phases.Popping now.hand).fits.1

-- so its counts together are all its references, and it doesn't die
merging_sum : (h : Heap) (t c local : ℕ) (p : Phase) → IsReached h → Sums h t c local p
    → (cell_at h c).count +ℤ pos (cell_at h c).local ≡ pos (held h c)
merging_sum h t c local p reached now =
    let x : Cell = cell_at h c in
    let mortal : FIRST_MORTAL ≤ c = (hand_tells h t c p reached now.hand).0 in
    let total : count_of_state states.Queued x.local x.count ≡ pos (held h c) =
    sym (live_counts x (ap lives now.owner) ∙ ap (λ s. count_of_state s x.local x.count) now.state)
    ∙ (reached_sound h reached).counted c mortal in
    omega (arith, ints, total)

merging_lives : (h : Heap) (t c local : ℕ) → IsReached h → Sums h t c local phases.Popping
    → takes_block (MergeAdd c) (cell_at h c) ≡ false
merging_lives h t c local reached now = nonzero ((cell_at h c).count +ℤ pos (cell_at h c).local) (held h c)
    (merging_sum h t c local phases.Popping reached now) (merging_held h t c local reached now)

-- a count above 0, as it is spelled
counts_word : (count : ℕ) → 1 ≤ count → 2 ^ 40 < ((2 ^ 40 + count) * 4 + 3) / 4
counts_word count some = omega (arith, some)

sum_counts : (n limit : ℕ) (h : Heap) (t : ℕ) (log : List LogItem) (c local there : ℕ) → 0 < t → Known n limit h t log
    → AddsLocal n log c local → WordShows h (Of Shared c) there
    → CountsSome ((there + (local * 4 + 1)) % 2 ^ 64)
sum_counts n limit h t log c local there some_thread known adds shown =
    let now : Sums h t c local phases.Popping = merges_now n limit h t log c local some_thread known adds in
    let is : (there + (local * 4 + 1)) % 2 ^ 64 ≡ shared_word (pos (held h c)) states.Merged =
    sum_stored n limit h t log c local there phases.Popping some_thread known adds.own now shown
    ∙ ap (λ m. shared_word m states.Merged) (merging_sum h t c local phases.Popping known.reached now) in
    let some : 1 ≤ held h c = merging_held h t c local known.reached now in
    subst CountsSome (sym is) (counts_word (held h c) some)

adds_up : (n limit : ℕ) (h : Heap) (t : ℕ) (log : List LogItem) (c local there : ℕ) → 0 < t → Known n limit h t log
    → AddsLocal n log c local → WordShows h (Of Shared c) there
    → IsPlain n h t (MergeAdd c) (Of Shared c) ((there + (local * 4 + 1)) % 2 ^ 64) ((there + (local * 4 + 1)) % 2 ^ 64)
adds_up n limit h t log c local there some_thread known adds shown =
    let s : Step = MergeAdd c in
    let x : Cell = cell_at h c in
    let now : Sums h t c local phases.Popping = merges_now n limit h t log c local some_thread known adds in
    let low : c < length h.cells = sums_inside h t c local phases.Popping now in
    let off : takes_block s x ≡ false = merging_lives h t c local known.reached now in
    let sum : (there + (local * 4 + 1)) % 2 ^ 64 ≡ shared_word (x.count +ℤ pos x.local) states.Merged =
    sum_stored n limit h t log c local there phases.Popping some_thread known adds.own now shown in
    plain_on n h t s c (Of Shared c) ((there + (local * 4 + 1)) % 2 ^ 64) ((there + (local * 4 + 1)) % 2 ^ 64) (record {
      may = may_add n limit h t log c local phases.Popping some_thread known adds.own now;
      target = refl;
      word = refl;
      shown = sum ∙ sym (ap (λ (y : Cell). shared_word y.count y.state) (read_cell h t s c low));
      told = sum;
      finds_none = ap (λ b. if b then entries_at h c else []) off;
      puts_none = refl;
      takes_none = ap (λ b. if b then Some c else None) off;
      stays = stays_on h t s c low refl off (same_owner x (cell_after t s c x) refl refl);
    })

-- ---- to be handed over

untied_own : (h : Heap) (t c local : ℕ) → IsReached h → (row_at h t).hand ≡ hands.Busy phases.Yielding c
    → (cell_at h c).local ≡ local → HandsOver h t c local
untied_own h t c local reached busy count =
    let words = merging_words h t c phases.Yielding reached busy (inr refl) in
    record { hand = busy; owner = words.0; state = words.1; count = count }

yields_now : (n limit : ℕ) (h : Heap) (t : ℕ) (log : List LogItem) (c local : ℕ) → 0 < t → Known n limit h t log
    → MayYield n log c local → Sums h t c local phases.Yielding
yields_now n limit h t log c local some_thread known yields =
    let busy : (row_at h t).hand ≡ hands.Busy phases.Yielding c =
    hand_in n limit h t log log (hands.Busy phases.Yielding c) known refl yields.hand in
    let mortal : FIRST_MORTAL ≤ c = (hand_tells h t c phases.Yielding known.reached busy).0 in
    let over : HandsOver h t c local = since_count n limit h t log (Untie c) c local (λ z. HandsOver z t c local)
    some_thread known yields.untied (yields.counted mortal) (no_register t c) (yielding_lasts t c local)
    (λ old before later may was says now same. untied_own (moved_on old t (Untie c)) t c local now.reached
    (hand_in n limit (moved_on old t (Untie c)) t later log (hands.Busy phases.Yielding c) now same yields.hand)
    (untied_count n limit old t before c local mortal may was says)) in
    record {
      hand = over.hand;
      owner = over.owner;
      state = over.state;
      count = over.count;
      active = hand_active h t c phases.Yielding (reached_sound h known.reached) over.hand refl;
    }

yielded : (n limit : ℕ) (h : Heap) (t : ℕ) (log : List LogItem) (c local there : ℕ) → 0 < t → Known n limit h t log
    → MayYield n log c local → WordShows h (Of Shared c) there
    → EndsOn h t (MergeAdd c) c (Of Shared c) ((there + (local * 4 + 1)) % 2 ^ 64) ((there + (local * 4 + 1)) % 2 ^ 64)
yielded n limit h t log c local there some_thread known yields shown =
    let s : Step = MergeAdd c in
    let x : Cell = cell_at h c in
    let now : Sums h t c local phases.Yielding = yields_now n limit h t log c local some_thread known yields in
    let low : c < length h.cells = sums_inside h t c local phases.Yielding now in
    let may : thread_may h t s ≡ true = may_add n limit h t log c local phases.Yielding some_thread known yields.own now in
    let sum : (there + (local * 4 + 1)) % 2 ^ 64 ≡ shared_word (x.count +ℤ pos x.local) states.Merged =
    sum_stored n limit h t log c local there phases.Yielding some_thread known yields.own now shown in
    record {
      may = may;
      target = refl;
      low = low;
      word = refl;
      shown = sum ∙ sym (ap (λ (y : Cell). shared_word y.count y.state) (read_cell h t s c low));
      told = sum;
      puts_none = refl;
      finds_taken = refl;
      frees_none = refl;
      number_tells = tells n limit h t log s c ((there + (local * 4 + 1)) % 2 ^ 64) known (may_parts h t s may) refl sum;
      stays = same_owner x (cell_after t s c x) refl refl;
      live = ap lives now.owner;
      same_owner = refl;
      unmarked = λ u. hand_unmarked h t u c phases.Yielding known.reached now.hand;
    }

module _ {B : Type 0} (shows : B → ℕ × Contents) (n limit : ℕ) where
  abbrev Rule : Table (Option B) View → Type 0
  Rule = Kept shows n limit

  pub adds_local : (id : ℕ) (v : View) (slots : List (ℕ × Option B)) (c local : ℕ) → v.active ≡ true → 0 < v.thread
      → c < n → AddsLocal n v.log c local
      → Allows Rule n id (v, slots) (spot n (Of Shared c)) (λ there. (there + (local * 4 + 1)) % 2 ^ 64)
      (λ there me. (me ≡ (with_told (Stepped (MergeAdd c) ((there + (local * 4 + 1)) % 2 ^ 64) moves.Nothing) v, slots))
      × CountsSome ((there + (local * 4 + 1)) % 2 ^ 64))
  adds_local id v slots c local active some_thread low adds =
      tells_found shows n limit (λ there. CountsSome ((there + (local * 4 + 1)) % 2 ^ 64)) id v slots (Of Shared c)
      (λ there. (there + (local * 4 + 1)) % 2 ^ 64)
      (λ there me. me ≡ (with_told (Stepped (MergeAdd c) ((there + (local * 4 + 1)) % 2 ^ 64) moves.Nothing) v, slots))
      active some_thread low
      (λ h there known shown. sum_counts n limit h v.thread v.log c local there some_thread known adds shown)
      (plain_step shows n limit id v slots (MergeAdd c) (Of Shared c) (λ there. (there + (local * 4 + 1)) % 2 ^ 64)
      (λ there. (there + (local * 4 + 1)) % 2 ^ 64) active some_thread low
      (λ h there known shown small. adds_up n limit h v.thread v.log c local there some_thread known adds shown))

  pub yields_local : (id : ℕ) (v : View) (slots : List (ℕ × Option B)) (c local : ℕ) → v.active ≡ true → 0 < v.thread
      → c < n → MayYield n v.log c local
      → Allows Rule n id (v, slots) (spot n (Of Shared c)) (λ there. (there + (local * 4 + 1)) % 2 ^ 64)
      (λ there me. EndedObject shows n v slots (MergeAdd c) c ((there + (local * 4 + 1)) % 2 ^ 64)
      (takes_block (MergeAdd c) (cell_told (MergeAdd c) ((there + (local * 4 + 1)) % 2 ^ 64))) me)
  yields_local id v slots c local active some_thread low yields =
      end_step_as shows n limit id v slots (MergeAdd c) c (Of Shared c) (λ there. (there + (local * 4 + 1)) % 2 ^ 64)
      (λ there. (there + (local * 4 + 1)) % 2 ^ 64) active some_thread low low
      (λ h there known shown small. yielded n limit h v.thread v.log c local there some_thread known yields shown)
