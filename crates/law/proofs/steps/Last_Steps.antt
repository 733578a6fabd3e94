-- LastDown by a note: of a popped bit, and of the reference in a hand.
use Rattle.std.proofs.Common.{◌≡◌, ℕ, ◌+◌, ◌-◌, ◌<◌, ◌≤◌, ◌^◌, ◌%◌, true, false, List, length, Option, refl, sym, ap}
use Rattle.std.proofs.Common.{subst, inl, inr, arith, not, ◌∙◌}
use Rattle.std.proofs.lemmas.Bool.{eqb-true, true≢false}
use Rattle.atomic_table.specs.Table.{State as Table, Allows}
use Rattle.brc_words.specs.declared.kind.Kind.{Kind}
use Rattle.brc_words.specs.declared.owner.Owner.TheVariants as owners
use Rattle.brc_words.specs.declared.state.State.{State}
use Rattle.brc_words.specs.declared.state.State.TheVariants as states
use Rattle.law.specs.declared.world.cell.Cell.{Cell}
use Rattle.law.specs.declared.world.event.LastDropped.TheVariants as lasts
use Rattle.law.specs.declared.world.event.Step.TheVariants.{LastDown, MergeAdd, Register}
use Rattle.law.specs.declared.world.row.Hand.TheVariants as hands
use Rattle.law.specs.declared.world.row.Phase.{Phase}
use Rattle.law.specs.declared.world.row.Phase.TheVariants as phases
use Rattle.law.specs.world.Lists.{bit_of}
use Rattle.law.specs.world.Phases.{is_ending}
use Rattle.law.specs.world.Heap.{Heap, cell_at, row_at, popped_at}
use Rattle.law.specs.world.Runs.{IsReached}
use Rattle.law.specs.world.Sound.{IsSound}
use Rattle.law.specs.world.Steps.{cell_in_hand, is_default, is_merged, is_nobody, is_active, ends_ok, takes_block}
use Rattle.law.proofs.world.Asking.{on_cell}
use Rattle.law.proofs.world.Merging.{carried_held, popped_held, held_owner}
use Rattle.law.proofs.world.Naming.{busy_carrier, free_hand, grips_free}
use Rattle.law.proofs.world.Reached.{reached_sound}
use Rattle.law.proofs.world.Sharing.{ending_hand, ending_reference}
use Rattle.law.specs.lasting.Staying.{Lasts, LivesOn, Nobodys, rank}
use Rattle.law.proofs.lasting.Lasting.{keeping_lasts, nobodys_last}
use Rattle.law.proofs.lasting.Ranges_Law.{reached_owners}
use Rattle.law.proofs.lasting.Telling.{hand_tells, popped_tells}
use Rattle.law.specs.declared.known.word.Field.TheVariants.{Owner, Shared}
use Rattle.law.specs.declared.known.word.Word.TheVariants.{Of}
use Rattle.law.specs.known.Items.{WordShows, cell_told}
use Rattle.law.specs.declared.rule.contents.Contents.{Contents}
use Rattle.law.specs.declared.rule.told.LogItem.{LogItem}
use Rattle.law.specs.declared.rule.view.View.{View}
use Rattle.law.specs.rule.Layout.{spot}
use Rattle.law.specs.rule.Rule.{Kept}
use Rattle.law.specs.rule.Seen.{part_seen, own_may}
use Rattle.law.specs.steps.Owing.{EndsPopped, EndsAdded, EndsLeft, EndsShut, EndsNobodys}
use Rattle.law.specs.steps.Taking.{EndedObject}
use Rattle.law.proofs.rule.Knowing.{Known, known_edition, hand_there}
use Rattle.brc_words.specs.declared.limits.TheConstants.{FIRST_MORTAL}
use Rattle.law.specs.declared.world.row.Row.{Row}
use Rattle.law.specs.world.Sound.{ShutFits, rests, rests_at, gripped}
use Rattle.law.proofs.world.Counting.{owned_ungripped, local_positive}
use Rattle.law.proofs.steps.Local_Steps.{read_cell}
use Rattle.law.proofs.rule.Stepping.{moved_on}
use Rattle.law.proofs.rule.Since.{since, since_step}
use Rattle.law.proofs.rule.Noting.{merged_word, nobodys_word, part_hand, part_own, hand_in, bit_in, has_popped}
use Rattle.law.proofs.rule.Noting.{has_in_hand, owner_told}
use Rattle.law.proofs.steps.Ending_Steps.{LastFits, last_down}
use Rattle.law.proofs.steps.Taking_Steps.{end_step}

-- ---- what lasts

-- the thread has the object, which lives on and whose state never falls
record Stays (h : Heap) (t c least : ℕ) : Type 0 where
  kind : Kind
  bearer : ℕ
  keeps : LivesOn h t c kind bearer least

stays_last : (t c least : ℕ) → Lasts t (λ h. Stays h t c least)
stays_last t c least h e reached ok others stays = record {
  kind = stays.kind;
  bearer = stays.bearer;
  keeps = keeping_lasts t c stays.kind stays.bearer least h e reached ok others stays.keeps;
}

popped_stays : (h : Heap) (t c : ℕ) → IsReached h → bit_of (popped_at h t) c ≡ 1 → (cell_at h c).state ≡ states.Merged
    → Stays h t c 2
popped_stays h t c reached bit merged =
    let sound : IsSound h = reached_sound h reached in
    let mortal = (sound.bits t c (omega (arith, bit))).0 in
    record {
      kind = (cell_at h c).kind;
      bearer = (cell_at h c).bearer;
      keeps = record {
        held = has_popped h t c bit;
        mortal = mortal;
        live = held_owner h c sound mortal (popped_held h t c bit);
        kind_is = refl;
        same_bearer = refl;
        state = omega (arith, ap rank merged);
      };
    }

-- the bit is set, as the step wants it
popped_bit : (n : ℕ) (log : List LogItem) (c : ℕ) → own_may n (part_seen n log) (LastDown (lasts.Popped c)) ≡ true
    → bit_of (part_seen n log).popped c ≡ 1
popped_bit n log c own = eqb-true (bit_of (part_seen n log).popped c) 1
    (part_own n (part_seen n log) (LastDown (lasts.Popped c)) own)

top_state : (state : State) → 2 ≤ rank state → state ≡ states.Merged
top_state states.Default high = absurd (omega (arith, high))
top_state states.Queued high = absurd (omega (arith, high))
top_state states.Merged high = refl

-- ---- the hand

-- an object whose reference may end is queued or merged
ending_risen : (h : Heap) (t c : ℕ) (p : Phase) → IsReached h → (row_at h t).hand ≡ hands.Busy p c → is_ending p ≡ true
    → is_default (cell_at h c).state ≡ false
ending_risen h t c phases.Asked reached busy ends = (hand_tells h t c phases.Asked reached busy).1
ending_risen h t c phases.Shut reached busy ends = elim (hand_tells h t c phases.Shut reached busy).1 [
  | inl nobody ↦ nobody.1
  | inr owned ↦ ap is_default owned.2
]
ending_risen h t c phases.Held reached busy ends = ap is_default (hand_tells h t c phases.Held reached busy).1.1
ending_risen h t c _ reached busy ends = absurd (true≢false (sym ends))

-- one of an object that is nobody's may end
ends_nobody : (p : Phase) (c : ℕ) (x : Cell) → x.owner ≡ owners.Nobody → ends_ok (hands.Busy p c) x ≡ true
ends_nobody phases.Held c x nobody = refl
ends_nobody _ c x nobody = ap is_nobody nobody

module _ {B : Type 0} (shows : B → ℕ × Contents) (n limit : ℕ) where
  abbrev Rule : Table (Option B) View → Type 0
  Rule = Kept shows n limit

  -- ---- a popped bit

  popped_fits : (h : Heap) (t : ℕ) (log : List LogItem) (c : ℕ) → Known n limit h t log
      → own_may n (part_seen n log) (LastDown (lasts.Popped c)) ≡ true → Stays h t c 2
      → LastFits shows n limit h t log (lasts.Popped c) c
  popped_fits h t log c known own now =
      let merged : (cell_at h c).state ≡ states.Merged = top_state (cell_at h c).state now.keeps.state in
      record {
        own = own;
        named = refl;
        holds = popped_held h t c (bit_in n limit h t log log c known refl (popped_bit n log c own));
        risen = ap is_default merged;
        fits = ap is_merged merged;
      }

  noted_merged : (h : Heap) (t : ℕ) (log : List LogItem) (c number : ℕ) → 0 < t → Known n limit h t log
      → EndsPopped n log c number → Stays h t c 2
  noted_merged h t log c number some_thread known ends = since n limit h t log Shared c number
      (λ z. Stays z t c 2) some_thread known ends.found (stays_last t c 2)
      (λ old before was same found. popped_stays old t c was.reached
      (bit_in n limit old t before log c was same (popped_bit n log c ends.own))
      (merged_word (cell_at old c).count (cell_at old c).state number found ends.merged))

  pub ends_popped : (id : ℕ) (v : View) (slots : List (ℕ × Option B)) (c number : ℕ) → v.active ≡ true → 0 < v.thread
      → c < n → EndsPopped n v.log c number
      → Allows Rule n id (v, slots) (spot n (Of Shared c)) (λ there. (there + (2 ^ 64 - 4)) % 2 ^ 64)
      (λ there me. EndedObject shows n v slots (LastDown (lasts.Popped c)) c there
      (takes_block (LastDown (lasts.Popped c)) (cell_told (LastDown (lasts.Popped c)) there)) me)
  ends_popped id v slots c number active some_thread low ends =
      end_step shows n limit id v slots (LastDown (lasts.Popped c)) c (Of Shared c)
      (λ there. (there + (2 ^ 64 - 4)) % 2 ^ 64) active some_thread low low
      (λ h there known shown small. last_down shows n limit h v.thread v.log (lasts.Popped c) c there some_thread known
      (popped_fits h v.thread v.log c known ends.own
      (noted_merged h v.thread v.log c number some_thread known ends)) shown)

  no_root : (c t : ℕ) → MergeAdd c ≡ Register t → ⊥
  no_root c t bad = absurd (cc)

  -- it has just been merged, by the thread's own hand
  just_merged : (h : Heap) (t : ℕ) (log : List LogItem) (c : ℕ) → 0 < t → Known n limit h t log → EndsAdded n log c
      → Stays h t c 2
  just_merged h t log c some_thread known ends = since_step n limit h t log (MergeAdd c)
      (λ z. Stays z t c 2) some_thread known ends.added (λ bad. no_root c t bad) (stays_last t c 2)
      (λ old later may was same. popped_stays (moved_on old t (MergeAdd c)) t c was.reached
      (bit_in n limit (moved_on old t (MergeAdd c)) t later log c was same (popped_bit n log c ends.own))
      (ap (λ (x : Cell). x.state) (read_cell old t (MergeAdd c) c (on_cell old t (MergeAdd c) c may.on_target).inside)))

  pub ends_added : (id : ℕ) (v : View) (slots : List (ℕ × Option B)) (c : ℕ) → v.active ≡ true → 0 < v.thread → c < n
      → EndsAdded n v.log c
      → Allows Rule n id (v, slots) (spot n (Of Shared c)) (λ there. (there + (2 ^ 64 - 4)) % 2 ^ 64)
      (λ there me. EndedObject shows n v slots (LastDown (lasts.Popped c)) c there
      (takes_block (LastDown (lasts.Popped c)) (cell_told (LastDown (lasts.Popped c)) there)) me)
  ends_added id v slots c active some_thread low ends =
      end_step shows n limit id v slots (LastDown (lasts.Popped c)) c (Of Shared c)
      (λ there. (there + (2 ^ 64 - 4)) % 2 ^ 64) active some_thread low low
      (λ h there known shown small. last_down shows n limit h v.thread v.log (lasts.Popped c) c there some_thread known
      (popped_fits h v.thread v.log c known ends.own (just_merged h v.thread v.log c some_thread known ends)) shown)

  -- a thread that isn't active any more has handed over what it owned
  merged_left : (h : Heap) (t : ℕ) (log : List LogItem) (c : ℕ) → Known n limit h t log → EndsLeft n log c
      → (cell_at h c).state ≡ states.Merged
  merged_left h t log c known ends =
      let sound : IsSound h = reached_sound h known.reached in
      let bit : bit_of (popped_at h t) c ≡ 1 = bit_in n limit h t log log c known refl (popped_bit n log c ends.own) in
      let free : (row_at h t).hand ≡ hands.Free = free_hand (row_at h t).hand
      (hand_there n limit h t log (LastDown (lasts.Popped c)) known ends.own) in
      elim (popped_tells h t c known.reached free bit) [
        | inl merged ↦ merged
        | inr his ↦
            let mortal : FIRST_MORTAL ≤ c = (sound.bits t c (omega (arith, bit))).0 in
            let off : is_active (row_at h t).stage ≡ false = ap (λ (r : Row). is_active r.stage) known.part.row_is
            ∙ ends.left in
            let rests_now : rests_at h t ≡ true = ap (λ e. rests e (row_at h t).stage) (known_edition n limit h t log known)
            ∙ ap not off in
            let none : (cell_at h c).local ≡ 0 = (sound.cells c mortal).rested t his.0 rests_now in
            let ungripped : gripped h c ≡ 0 = owned_ungripped h t c sound mortal his.0 (popped_held h t c bit)
            (grips_free c (row_at h t).hand free) in
            absurd (omega (arith, none, local_positive h t c sound mortal his.0 ungripped))
      ]

  pub ends_left : (id : ℕ) (v : View) (slots : List (ℕ × Option B)) (c : ℕ) → v.active ≡ true → 0 < v.thread → c < n
      → EndsLeft n v.log c
      → Allows Rule n id (v, slots) (spot n (Of Shared c)) (λ there. (there + (2 ^ 64 - 4)) % 2 ^ 64)
      (λ there me. EndedObject shows n v slots (LastDown (lasts.Popped c)) c there
      (takes_block (LastDown (lasts.Popped c)) (cell_told (LastDown (lasts.Popped c)) there)) me)
  ends_left id v slots c active some_thread low ends =
      end_step shows n limit id v slots (LastDown (lasts.Popped c)) c (Of Shared c)
      (λ there. (there + (2 ^ 64 - 4)) % 2 ^ 64) active some_thread low low
      (λ h there known shown small. last_down shows n limit h v.thread v.log (lasts.Popped c) c there some_thread known
      (popped_fits h v.thread v.log c known ends.own (popped_stays h v.thread c known.reached
      (bit_in n limit h v.thread v.log v.log c known refl (popped_bit n v.log c ends.own))
      (merged_left h v.thread v.log c known ends))) shown)

  -- ---- the hand

  hand_fits : (h : Heap) (t : ℕ) (log : List LogItem) (c : ℕ) (p : Phase) → Known n limit h t log
      → own_may n (part_seen n log) (LastDown lasts.Hand) ≡ true → (row_at h t).hand ≡ hands.Busy p c
      → is_ending p ≡ true → ends_ok (hands.Busy p c) (cell_at h c) ≡ true
      → LastFits shows n limit h t log lasts.Hand c
  hand_fits h t log c p known own busy ends ok = record {
    own = own;
    named = ap cell_in_hand busy;
    holds = carried_held h t c (busy_carrier p c (row_at h t).hand (ending_reference p ends) busy);
    risen = ending_risen h t c p known.reached busy ends;
    fits = subst (λ g. ends_ok g (cell_at h c) ≡ true) (sym busy) ok;
  }

  -- the owner has handed over what was asked of it
  shut_fits : (h : Heap) (t : ℕ) (log : List LogItem) (c : ℕ) → Known n limit h t log → EndsShut n log c
      → LastFits shows n limit h t log lasts.Hand c
  shut_fits h t log c known ends =
      let busy : (row_at h t).hand ≡ hands.Busy phases.Shut c =
      hand_in n limit h t log log (hands.Busy phases.Shut c) known refl ends.hand in
      let nobody : (cell_at h c).owner ≡ owners.Nobody =
      subst (λ e. ShutFits e (cell_at h c) (row_at h (cell_at h c).bearer).stage c)
      (known_edition n limit h t log known) ((reached_sound h known.reached).hands t c phases.Shut busy).fits in
      hand_fits h t log c phases.Shut known ends.own busy refl (ap is_nobody nobody)

  pub ends_shut : (id : ℕ) (v : View) (slots : List (ℕ × Option B)) (c : ℕ) → v.active ≡ true → 0 < v.thread → c < n
      → EndsShut n v.log c
      → Allows Rule n id (v, slots) (spot n (Of Shared c)) (λ there. (there + (2 ^ 64 - 4)) % 2 ^ 64)
      (λ there me. EndedObject shows n v slots (LastDown lasts.Hand) c there
      (takes_block (LastDown lasts.Hand) (cell_told (LastDown lasts.Hand) there)) me)
  ends_shut id v slots c active some_thread low ends =
      end_step shows n limit id v slots (LastDown lasts.Hand) c (Of Shared c) (λ there. (there + (2 ^ 64 - 4)) % 2 ^ 64)
      active some_thread low low
      (λ h there known shown small. last_down shows n limit h v.thread v.log lasts.Hand c there some_thread known
      (shut_fits h v.thread v.log c known ends) shown)

  nobodys_fits : (h : Heap) (t : ℕ) (log : List LogItem) (c : ℕ) → 0 < t → Known n limit h t log → EndsNobodys n log c
      → LastFits shows n limit h t log lasts.Hand c
  nobodys_fits h t log c some_thread known ends =
      let hand = ending_hand (part_seen n log).row.hand c (part_hand n (part_seen n log) (LastDown lasts.Hand) ends.own)
      ends.cell in
      let now : Nobodys h t c = since n limit h t log Owner c 0 (λ z. Nobodys z t c) some_thread known ends.found
      (nobodys_last t c)
      (λ old before was same found. noted_nobodys old t c hand.0 was.reached
      (hand_in n limit old t before log (hands.Busy hand.0 c) was same hand.1) hand.2 found) in
      hand_fits h t log c hand.0 known ends.own (hand_in n limit h t log log (hands.Busy hand.0 c) known refl hand.1)
      hand.2 (ends_nobody hand.0 c (cell_at h c) now.owner)
    where
      noted_nobodys : (h : Heap) (t c : ℕ) (p : Phase) → IsReached h → (row_at h t).hand ≡ hands.Busy p c
          → is_ending p ≡ true → WordShows h (Of Owner c) 0 → Nobodys h t c
      noted_nobodys h t c p reached busy ends found = record {
        held = has_in_hand h t c p busy (ending_reference p ends);
        mortal = (hand_tells h t c p reached busy).0;
        owner = nobodys_word (length h.rows) (cell_at h c).owner (reached_owners h reached c)
            (owner_told h t c 0 reached (has_in_hand h t c p busy (ending_reference p ends)) found);
      }

  pub ends_nobodys : (id : ℕ) (v : View) (slots : List (ℕ × Option B)) (c : ℕ) → v.active ≡ true → 0 < v.thread → c < n
      → EndsNobodys n v.log c
      → Allows Rule n id (v, slots) (spot n (Of Shared c)) (λ there. (there + (2 ^ 64 - 4)) % 2 ^ 64)
      (λ there me. EndedObject shows n v slots (LastDown lasts.Hand) c there
      (takes_block (LastDown lasts.Hand) (cell_told (LastDown lasts.Hand) there)) me)
  ends_nobodys id v slots c active some_thread low ends =
      end_step shows n limit id v slots (LastDown lasts.Hand) c (Of Shared c) (λ there. (there + (2 ^ 64 - 4)) % 2 ^ 64)
      active some_thread low low
      (λ h there known shown small. last_down shows n limit h v.thread v.log lasts.Hand c there some_thread known
      (nobodys_fits h v.thread v.log c some_thread known ends) shown)
