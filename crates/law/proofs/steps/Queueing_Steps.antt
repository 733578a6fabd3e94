-- Enqueue: an asked cell's bit goes into a queue word of its bearer, which is open or closed.
use Rattle.std.proofs.Common.{◌≡◌, ℕ, ◌+◌, ◌/◌, ◌%◌, ◌<◌, ◌≤◌, ◌^◌, ◌&&◌, nat_lt, Bool, true, false, List, [], length}
use Rattle.std.proofs.Common.{set, get_or, Option, Some, refl, sym, ◌∙◌, ap, subst, arith}
use Rattle.std.specs.Int.RustNames.{bit_or}
use Rattle.std.proofs.lemmas.Bool.{lt-ltb}
use Rattle.std.proofs.lemmas.List.{get_or-set_same}
use Rattle.std.proofs.lemmas.Nat.{le_or_l}
use Rattle.std.specs.Cmp.Derive.{both_true}
use Rattle.atomic_table.specs.Table.{State as Table, Allows}
use Rattle.brc_words.specs.declared.kind.Kind.{Kind}
use Rattle.brc_words.specs.declared.limits.TheConstants.{FIRST_MORTAL, MOST_THREADS}
use Rattle.brc_words.specs.declared.owner.Owner.TheVariants as owners
use Rattle.law.specs.declared.world.cell.Cell.{Cell}
use Rattle.law.specs.declared.world.event.Step.{Step}
use Rattle.law.specs.declared.world.event.Step.TheVariants.{Enqueue}
use Rattle.law.specs.declared.world.row.Hand.TheVariants as hands
use Rattle.law.specs.declared.world.row.Phase.TheVariants as phases
use Rattle.law.specs.declared.world.row.Row.{Row}
use Rattle.law.specs.world.Lists.{word_at, with_bit}
use Rattle.law.specs.world.Heap.{Heap, cell_at, row_at, queue_at, no_row, is_registered, words_for}
use Rattle.law.specs.world.Holding.{lives}
use Rattle.law.specs.world.Runs.{IsReached}
use Rattle.law.specs.world.Sound.{IsSound}
use Rattle.law.specs.world.Steps.{cell_after, stepped, is_closed, is_shut, queues_with}
use Rattle.law.proofs.world.Naming.{busy_hand}
use Rattle.law.proofs.world.Reached.{reached_sound}
use Rattle.law.specs.lasting.Staying.{Lasts, LivesOn}
use Rattle.law.proofs.lasting.Lasting.{live_owner, keeping_lasts}
use Rattle.law.proofs.lasting.Progress.{inside}
use Rattle.law.proofs.lasting.Ranges_Law.{same_rows}
use Rattle.law.specs.declared.known.word.Field.TheVariants.{Owner}
use Rattle.law.specs.declared.known.word.Word.TheVariants.{Of, Queue}
use Rattle.law.specs.known.Items.{WordShows, ShowsQueue, ToldBy, spelled, closing_bit}
use Rattle.law.proofs.known.Owners_Law.{thread_spelled}
use Rattle.law.proofs.known.Words_Law.{kept_by}
use Rattle.law.specs.declared.rule.contents.Contents.{Contents}
use Rattle.law.specs.declared.rule.told.Moved.TheVariants as moves
use Rattle.law.specs.declared.rule.told.LogItem.{LogItem}
use Rattle.law.specs.declared.rule.told.LogItem.TheVariants.{Stepped}
use Rattle.law.specs.declared.rule.view.View.{View}
use Rattle.law.specs.rule.Layout.{spot}
use Rattle.law.specs.rule.Rule.{with_told, Kept}
use Rattle.law.specs.rule.Seen.{part_seen}
use Rattle.law.specs.steps.Owing.{Enqueues}
use Rattle.law.proofs.rule.Knowing.{Known, is_enabled}
use Rattle.law.proofs.steps.Local_Steps.{fits_cell}
use Rattle.law.proofs.steps.Plain_Steps.{IsPlain, plain_on, same_owner, stays_on, plain_step}
use Rattle.law.proofs.rule.Since.{since}
use Rattle.law.proofs.rule.Noting.{part_hand, hand_in, has_in_hand, owner_told}

-- ---- who bore the object

-- the thread has the object, which thread q bore
record BornBy (h : Heap) (t c q : ℕ) : Type 0 where
  kind : Kind
  keeps : LivesOn h t c kind q 0

born_lasts : (t c q : ℕ) → Lasts t (λ h. BornBy h t c q)
born_lasts t c q h e reached ok others born =
    record { kind = born.kind; keeps = keeping_lasts t c born.kind q 0 h e reached ok others born.keeps }

-- its owner is its bearer
noted_bearer : (h : Heap) (t c q : ℕ) → IsReached h → (row_at h t).hand ≡ hands.Busy phases.Asked c
    → WordShows h (Of Owner c) q → 0 < q → q ≤ MOST_THREADS → BornBy h t c q
noted_bearer h t c q reached busy found some_thread few =
    let sound : IsSound h = reached_sound h reached in
    let mortal : FIRST_MORTAL ≤ c = (sound.hands t c phases.Asked busy).mortal in
    let owner : (cell_at h c).owner ≡ owners.Thread q = thread_spelled (cell_at h c).owner q
    (owner_told h t c q reached (has_in_hand h t c phases.Asked busy refl) found) some_thread few in
    record {
      kind = (cell_at h c).kind;
      keeps = record {
        held = has_in_hand h t c phases.Asked busy refl;
        mortal = mortal;
        live = ap lives owner;
        kind_is = refl;
        same_bearer = (sound.cells c mortal).owned_by_bearer q owner;
        state = omega arith;
      };
    }

born_now : (n limit : ℕ) (h : Heap) (t : ℕ) (log : List LogItem) (c q : ℕ) → 0 < t → Known n limit h t log
    → Enqueues n log c q → BornBy h t c q
born_now n limit h t log c q some_thread known asks =
    let busy : (part_seen n log).row.hand ≡ hands.Busy phases.Asked c = busy_hand phases.Asked c _
    (part_hand n (part_seen n log) (Enqueue c) asks.own) in
    since n limit h t log Owner c q (λ z. BornBy z t c q) some_thread known asks.found (born_lasts t c q)
    (λ old before was same found. noted_bearer old t c q was.reached
    (hand_in n limit old t before log (hands.Busy phases.Asked c) was same busy) found asks.owned asks.thread)

-- ---- the queue word

-- the bearer is registered, and has the word
record HasWord (h : Heap) (u c : ℕ) : Type 0 where
  registered : is_registered h u ≡ true
  thread : u < length h.queues
  inside : c / 32 < length (queue_at h u)

has_word : (h : Heap) (c : ℕ) → IsSound h → FIRST_MORTAL ≤ c → lives (cell_at h c).owner ≡ true → c < length h.cells
    → HasWord h (cell_at h c).bearer c
has_word h c sound mortal live low =
    let born : (0 < (cell_at h c).bearer) × ((cell_at h c).bearer < length h.rows) = (sound.cells c mortal).born live in
    record {
      registered = both_true (lt-ltb _ _ born.0) (lt-ltb _ _ born.1);
      thread = omega (arith, born.1, sound.shaped.queues);
      inside = omega (arith, sound.shaped.queue_words (cell_at h c).bearer born.0 born.1, low);
    }

-- what is found in it
word_found : (h : Heap) (c there : ℕ) → is_registered h (cell_at h c).bearer ≡ true
    → WordShows h (Queue (cell_at h c).bearer (c / 32)) there
    → ToldBy (is_shut h c) (word_at (queue_at h (cell_at h c).bearer) (c / 32)) there
word_found h c there registered shown =
    subst (λ b. ShowsQueue b (is_shut h c) (word_at (queue_at h (cell_at h c).bearer) (c / 32)) there) registered shown

word_told : (h : Heap) (c there : ℕ) → ToldBy (is_shut h c) (word_at (queue_at h (cell_at h c).bearer) (c / 32)) there
    → ToldBy (is_shut h c) (spelled h (Queue (cell_at h c).bearer (c / 32))) there
word_told h c there found = by_shut (is_shut h c) refl found
  where
    by_shut : (b : Bool) → is_shut h c ≡ b → ToldBy b (word_at (queue_at h (cell_at h c).bearer) (c / 32)) there
        → ToldBy b (spelled h (Queue (cell_at h c).bearer (c / 32))) there
    by_shut true shut found = found
    by_shut false apart found = omega (arith, found, ap closing_bit apart)

-- the word with the cell's bit
word_after : (h : Heap) (u c : ℕ) (queues : List (List ℕ)) → u < length queues → c / 32 < length (get_or queues u [])
    → word_at (get_or (set queues u (with_bit (get_or queues u []) c)) u []) (c / 32) ≡ bit_or
    (word_at (get_or queues u []) (c / 32)) (2 ^ (c % 32))
word_after h u c queues low inside =
    ap (λ (words : List ℕ). word_at words (c / 32)) (get_or-set_same queues u (with_bit (get_or queues u []) c) [] low)
    ∙ get_or-set_same (get_or queues u []) (c / 32)
    (bit_or (word_at (get_or queues u []) (c / 32)) (2 ^ (c % 32))) 0 inside

-- a closed word stays one, whatever bits are set in it
word_shown : (h : Heap) (t c there : ℕ) → HasWord h (cell_at h c).bearer c
    → ToldBy (is_shut h c) (word_at (queue_at h (cell_at h c).bearer) (c / 32)) there
    → WordShows (stepped h t (Enqueue c) c) (Queue (cell_at h c).bearer (c / 32)) (bit_or there (2 ^ (c % 32)))
word_shown h t c there has found =
    subst (λ b. ShowsQueue b (is_closed (row_at new u).stage (c / 32)) (word_at (queue_at new u) (c / 32)) after_bit)
    (sym (ap (λ m. nat_lt 0 u && nat_lt u m) (same_rows h t (Enqueue c) (Some c)) ∙ has.registered))
    (subst (λ b. ToldBy b (word_at (queue_at new u) (c / 32)) after_bit)
    (sym (kept_by (λ (row : Row). is_closed row.stage (c / 32)) h.rows t _ no_row refl u))
    (by_shut (is_shut h c) refl found))
  where
    u : ℕ
    u = (cell_at h c).bearer

    new : Heap
    new = stepped h t (Enqueue c) c

    after_bit : ℕ
    after_bit = bit_or there (2 ^ (c % 32))

    by_shut : (b : Bool) → is_shut h c ≡ b → ToldBy b (word_at (queue_at h u) (c / 32)) there
        → ToldBy b (word_at (get_or (queues_with true (is_shut h c) u c h.queues) u []) (c / 32)) after_bit
    by_shut true shut found = omega (arith, found, le_or_l there (2 ^ (c % 32)))
    by_shut false apart found = ap (λ m. bit_or m (2 ^ (c % 32))) found
        ∙ sym (ap (λ b. word_at (get_or (queues_with true b u c h.queues) u []) (c / 32)) apart
        ∙ word_after h u c h.queues has.thread has.inside)

-- ---- the step

enqueued : (n limit : ℕ) (h : Heap) (t : ℕ) (log : List LogItem) (c q there : ℕ) → 0 < t → Known n limit h t log
    → Enqueues n log c q → WordShows h (Queue q (c / 32)) there
    → IsPlain n h t (Enqueue c) (Queue q (c / 32)) (bit_or there (2 ^ (c % 32))) there
enqueued n limit h t log c q there some_thread known asks shown =
    let s : Step = Enqueue c in
    let x : Cell = cell_at h c in
    let now : BornBy h t c q = born_now n limit h t log c q some_thread known asks in
    let low : c < length h.cells = inside h c (live_owner _ now.keeps.live) in
    let bearer : x.bearer ≡ q = now.keeps.same_bearer in
    let has : HasWord h x.bearer c = has_word h c (reached_sound h known.reached) now.keeps.mortal now.keeps.live low in
    let found : ToldBy (is_shut h c) (word_at (queue_at h x.bearer) (c / 32)) there =
    word_found h c there has.registered (subst (λ b. WordShows h (Queue b (c / 32)) there) (sym bearer) shown) in
    plain_on n h t s c (Queue q (c / 32)) (bit_or there (2 ^ (c % 32))) there (record {
      may = is_enabled n limit h t log s some_thread known asks.own refl refl
          (fits_cell n limit h t log s c known refl low refl);
      target = refl;
      word = ap (λ b. Queue b (c / 32)) bearer;
      shown = subst (λ b. WordShows (stepped h t s c) (Queue b (c / 32)) (bit_or there (2 ^ (c % 32)))) bearer
          (word_shown h t c there has found);
      told = word_told h c there found;
      finds_none = refl;
      puts_none = refl;
      takes_none = refl;
      stays = stays_on h t s c low refl refl (same_owner x (cell_after t s c x) refl refl);
    })

module _ {B : Type 0} (shows : B → ℕ × Contents) (n limit : ℕ) where
  abbrev Rule : Table (Option B) View → Type 0
  Rule = Kept shows n limit

  -- a number of 2^63 or more says that the word was closed, and then the hand is shut
  pub enqueues : (id : ℕ) (v : View) (slots : List (ℕ × Option B)) (c q : ℕ) → v.active ≡ true → 0 < v.thread → c < n
      → Enqueues n v.log c q
      → Allows Rule n id (v, slots) (spot n (Queue q (c / 32))) (λ there. bit_or there (2 ^ (c % 32)))
      (λ there me. me ≡ (with_told (Stepped (Enqueue c) there moves.Nothing) v, slots))
  enqueues id v slots c q active some_thread low asks =
      let few : q < MOST_THREADS + 1 = omega (arith, asks.thread) in
      let inside_is : c / 32 < words_for n = omega (arith, low) in
      plain_step shows n limit id v slots (Enqueue c) (Queue q (c / 32)) (λ there. bit_or there (2 ^ (c % 32)))
      (λ there. there) active some_thread (few, inside_is)
      (λ h there known shown small. enqueued n limit h v.thread v.log c q there some_thread known asks shown)
