-- Steps on words that are no cell's: Drain and Close take the bits of an own queue word, Nudge sets a bit of a notify
-- word and Wake takes them all.
use Rattle.std.proofs.Common.{◌≡◌, ℕ, ◌+◌, ◌*◌, ◌/◌, ◌<◌, ◌≤◌, ◌^◌, ◌==◌, nat_lt, ◌&&◌, ◌||◌, not, zero, suc, Bool, true, false, if◌then◌else◌}
use Rattle.std.proofs.Common.{List, [], length, set, Option, None, refl, sym, ◌∙◌, ap, subst, inl, inr, arith}
use Rattle.std.specs.Int.{bit_at}
use Rattle.std.specs.Int.RustNames.{bit_or}
use Rattle.std.proofs.lemmas.Bool.{cases_eq, cases_lt, cases_Bool, eq-eqb, ne_eqb, eqb-true, lt-ltb, ltb-true, lt-leb, le-leb}
use Rattle.std.proofs.lemmas.Bool.{and_parts, true≢false}
use Rattle.std.proofs.lemmas.Nat.{le_or_r}
use Rattle.std.specs.Cmp.Derive.{both_true}
use Rattle.atomic_table.specs.Table.{State as Table, Allows}
use Rattle.brc_words.specs.declared.limits.TheConstants.{MOST_THREADS, FIRST_MORTAL}
use Rattle.law.specs.declared.world.event.Step.{Step}
use Rattle.law.specs.declared.world.event.Step.TheVariants.{Drain, Close, Nudge, Wake, Reopen}
use Rattle.law.specs.declared.world.row.Stage.{Stage}
use Rattle.law.specs.declared.world.row.Hand.TheVariants as hands
use Rattle.brc_words.specs.declared.owner.Owner.TheVariants as owners
use Rattle.law.specs.world.Holding.{lives}
use Rattle.law.proofs.world.Naming.{free_hand, thread_owner}
use Rattle.law.proofs.lasting.Lasting.{live_owner}
use Rattle.law.proofs.lasting.Progress.{inside}
use Rattle.law.proofs.known.Owned_Law.{uncounted_on}
use Rattle.law.specs.declared.world.row.Row.{Row}
use Rattle.law.specs.declared.world.row.Stage.TheVariants as stages
use Rattle.law.specs.world.Lists.{word_at, is_marked}
use Rattle.law.specs.world.Heap.{Heap, cell_at, row_at, queue_at, worklist_at, no_row, is_registered, words_for}
use Rattle.law.specs.world.Sound.{IsSound, rests}
use Rattle.law.specs.world.Steps.{thread_may, target_at, after_target, kept_cells, stage_after, is_closed, closed_more}
use Rattle.law.specs.world.Steps.{may_leave, owned_are_marked, opened_more, opens_next, is_owned_by, is_mine, is_active}
use Rattle.law.proofs.world.Asking.{May, may_parts}
use Rattle.law.proofs.world.Changes.{read_here}
use Rattle.law.proofs.world.Reached.{reached_sound}
use Rattle.law.specs.declared.known.word.Word.{Word}
use Rattle.law.specs.declared.known.word.Word.TheVariants.{Queue, NotifyWord}
use Rattle.law.specs.known.Items.{IsWord, WordShows, ShowsQueue, ToldBy, meets_closed, told_at, found_at, works_on}
use Rattle.law.specs.known.Items.{closing_bit}
use Rattle.law.proofs.known.Items_Own.{next_open, drains_open}
use Rattle.law.proofs.known.Queued_Law.{queue_bits}
use Rattle.law.specs.declared.rule.contents.Contents.{Contents}
use Rattle.law.specs.declared.rule.told.Moved.TheVariants as moves
use Rattle.law.specs.declared.rule.told.LogItem.{LogItem}
use Rattle.law.specs.declared.rule.told.LogItem.TheVariants.{Stepped}
use Rattle.law.specs.declared.rule.view.View.{View}
use Rattle.law.specs.rule.Layout.{spot}
use Rattle.law.specs.rule.Logs.{puts, takes_of}
use Rattle.law.specs.rule.Rule.{with_told, Kept}
use Rattle.law.specs.steps.Owing.{MayStep, MayClose, MayNudge}
use Rattle.law.specs.steps.Taking.{AreQueued}
use Rattle.law.proofs.rule.Own_Logs.{stands_registered}
use Rattle.law.proofs.rule.Knowing.{Known, is_enabled, known_edition, hand_there}
use Rattle.law.proofs.steps.Plain_Steps.{IsPlain, stays_off, plain_step}
use Rattle.law.proofs.steps.Telling.{tells_found}

-- a thread's event on a word that is no cell's
record PlainOff (h : Heap) (t : ℕ) (s : Step) (w : Word) (written number : ℕ) : Type 0 where
  may : thread_may h t s ≡ true
  target : target_at h t s ≡ None
  word : works_on h t s None ≡ w
  shown : WordShows (kept_cells h t s) w written
  told : ToldBy (meets_closed h s) (told_at h t s None) number
  puts_none : puts h t s ≡ None

plain_off : (n : ℕ) (h : Heap) (t : ℕ) (s : Step) (w : Word) (written number : ℕ) → PlainOff h t s w written number
    → IsPlain n h t s w written number
plain_off n h t s w written number off =
    let back : None ≡ target_at h t s = sym off.target in
    record {
      may = off.may;
      word = ap (works_on h t s) off.target ∙ off.word;
      shown = subst (λ o. WordShows (after_target h t s o) w written) back off.shown;
      told = subst (λ o. ToldBy (meets_closed h s) (told_at h t s o) number) back off.told;
      finds_none = ap (found_at h s) off.target;
      puts_none = off.puts_none;
      takes_none = ap (takes_of h s) off.target;
      stays = λ d low. subst (λ o. Rattle.law.proofs.rule.Homing.Stays h (after_target h t s o) d) back
          (stays_off h t s d);
    }

-- what an open queue word of a registered thread shows
open_shows : (h : Heap) (t k there : ℕ) → is_registered h t ≡ true → is_closed (row_at h t).stage k ≡ false
    → WordShows h (Queue t k) there → there ≡ word_at (queue_at h t) k
open_shows h t k there registered open_word shown =
    subst (λ closed. ToldBy closed (word_at (queue_at h t) k) there) open_word
    (subst (λ reg. ShowsQueue reg (is_closed (row_at h t).stage k) (word_at (queue_at h t) k) there) registered shown)

told_open : (h : Heap) (t k there : ℕ) → is_closed (row_at h t).stage k ≡ false → there ≡ word_at (queue_at h t) k
    → there ≡ word_at (queue_at h t) k + closing_bit (is_closed (row_at h t).stage k)
told_open h t k there open_word is = omega (arith, is, ap closing_bit open_word)

-- the number of a queue word after a step on it
queue_shows : (new : Heap) (t k written : ℕ) (closed : Bool) (bits : ℕ) → is_registered new t ≡ true
    → is_closed (row_at new t).stage k ≡ closed → word_at (queue_at new t) k ≡ bits → ToldBy closed bits written
    → WordShows new (Queue t k) written
queue_shows new t k written closed bits registered stage queue said =
    subst (λ reg. ShowsQueue reg (is_closed (row_at new t).stage k) (word_at (queue_at new t) k) written)
    (sym registered)
    (subst (λ b. ShowsQueue true b (word_at (queue_at new t) k) written) (sym stage)
    (subst (λ q. ToldBy closed q written) (sym queue) said))

-- the word that is closed
now_closed : (words k : ℕ) → is_closed (closed_more words k) k ≡ true
now_closed words k = elim (cases_eq (k + 1) words) [
  | inl last ↦ ap (λ b. is_closed (if b then stages.Left else stages.Closing (k + 1)) k) (eq-eqb (k + 1) words last)
  | inr more ↦ ap (λ b. is_closed (if b then stages.Left else stages.Closing (k + 1)) k) (ne_eqb (k + 1) words more)
      ∙ lt-ltb k (k + 1) (omega arith)
]

-- the word that is opened again
now_open : (words k : ℕ) → is_closed (opened_more words k) k ≡ false
now_open words k = elim (cases_eq (k + 1) words) [
  | inl last ↦ ap (λ b. is_closed (if b then stages.Active else stages.Opening (k + 1)) k) (eq-eqb (k + 1) words last)
  | inr more ↦ ap (λ b. is_closed (if b then stages.Active else stages.Opening (k + 1)) k) (ne_eqb (k + 1) words more)
      ∙ lt-leb (k + 1) k (omega arith)
]

opens_closed : (stage : Stage) (k : ℕ) → opens_next stage k ≡ true → is_closed stage k ≡ true
opens_closed stages.Active k next = absurd (true≢false (sym next))
opens_closed (stages.Closing m) k next = absurd (true≢false (sym next))
opens_closed stages.Left k next = absurd (true≢false (sym next))
opens_closed (stages.Opening m) k next = le-leb m k (omega (arith, eqb-true k m next))

module _ {B : Type 0} (shows : B → ℕ × Contents) (n limit : ℕ) where
  abbrev Rule : Table (Option B) View → Type 0
  Rule = Kept shows n limit

  -- an open word of the thread's own shows its bits, and these are cells
  bits_shown : (h : Heap) (t : ℕ) (log : List LogItem) (k there : ℕ) → 0 < t → Known n limit h t log
      → is_closed (row_at h t).stage k ≡ false → WordShows h (Queue t k) there → AreQueued n k there
  bits_shown h t log k there some_thread known open_word shown i on =
      let is : there ≡ word_at (queue_at h t) k = open_shows h t k there (stands_registered h t known.stood some_thread)
      open_word shown in
      subst (λ m. (i < 32) × (k * 32 + i < m)) known.cells
      (queue_bits h t k i known.reached (ap (λ m. bit_at m i) (sym is) ∙ on))

  -- ---- Drain

  drained_open : (h : Heap) (t : ℕ) (log : List LogItem) (k : ℕ) → 0 < t → Known n limit h t log
      → MayStep n log (Drain k)
      → is_closed (row_at h t).stage k ≡ false
  drained_open h t log k some_thread known allowed = drains_open (row_at h t).stage k
      (may_parts h t (Drain k) (is_enabled n limit h t log (Drain k) some_thread known allowed.own refl refl
      refl)).stage

  drained : (h : Heap) (t : ℕ) (log : List LogItem) (k there : ℕ) → 0 < t → k < words_for n → Known n limit h t log
      → MayStep n log (Drain k) → WordShows h (Queue t k) there
      → IsPlain n h t (Drain k) (Queue t k) 0 there
  drained h t log k there some_thread inside known allowed shown =
      let s : Step = Drain k in
      let sound : IsSound h = reached_sound h known.reached in
      let may : thread_may h t s ≡ true = is_enabled n limit h t log s some_thread known allowed.own refl refl refl in
      let parts : May h t s = may_parts h t s may in
      let registered : is_registered h t ≡ true = stands_registered h t known.stood some_thread in
      let open_word : is_closed (row_at h t).stage k ≡ false = drained_open h t log k some_thread known allowed in
      let is : there ≡ word_at (queue_at h t) k = open_shows h t k there registered open_word shown in
      let row : row_at (kept_cells h t s) t ≡ record (row_at h t) {
        stage = stage_after (words_for (length h.cells)) s
            (row_at h t).stage;
      } = read_here h.rows t _ no_row parts.inside in
      let queue : queue_at (kept_cells h t s) t ≡ set (queue_at h t) k 0 = read_here h.queues t _ []
      (omega (arith, sound.shaped.queues, parts.inside)) in
      plain_off n h t s (Queue t k) 0 there (record {
        may = may;
        target = refl;
        word = refl;
        shown = queue_shows (kept_cells h t s) t k 0 false 0
            (ap (λ m. nat_lt 0 t && nat_lt t m) (Rattle.law.proofs.lasting.Ranges_Law.same_rows h t s None)
            ∙ registered)
            (ap (λ (r : Row). is_closed r.stage k) row ∙ open_word)
            (ap (λ (q : List ℕ). word_at q k) queue
            ∙ read_here (queue_at h t) k 0 0
            (omega (arith, inside, known.cells, sound.shaped.queue_words t some_thread parts.inside))) refl;
        told = told_open h t k there open_word is;
        puts_none = refl;
      })

  pub drains : (id : ℕ) (v : View) (slots : List (ℕ × Option B)) (k : ℕ) → v.active ≡ true → 0 < v.thread
      → v.thread ≤ MOST_THREADS → k < words_for n → MayStep n v.log (Drain k)
      → Allows Rule n id (v, slots) (spot n (Queue v.thread k)) (λ there. 0)
      (λ there me. (me ≡ (with_told (Stepped (Drain k) there moves.Nothing) v, slots)) × AreQueued n k there)
  drains id v slots k active some_thread few inside allowed =
      let is : IsWord n (Queue v.thread k) = (omega (arith, few), inside) in
      tells_found shows n limit (AreQueued n k) id v slots (Queue v.thread k) (λ there. 0)
      (λ there me. me ≡ (with_told (Stepped (Drain k) there moves.Nothing) v, slots)) active some_thread is
      (λ h there known shown. bits_shown h v.thread v.log k there some_thread known
      (drained_open h v.thread v.log k some_thread known allowed) shown)
      (plain_step shows n limit id v slots (Drain k) (Queue v.thread k) (λ there. 0) (λ there. there) active
      some_thread is
      (λ h there known shown small. drained h v.thread v.log k there some_thread inside known allowed shown))

  -- ---- Close

  -- what it still owns is dead: an active thread counts nothing of it, and one that is closing has handed over the rest
  owned_dead : (h : Heap) (t : ℕ) (log : List LogItem) (k c : ℕ) → Known n limit h t log → MayClose n log k
      → (not (is_owned_by t (cell_at h c).owner) || is_marked (worklist_at h t) c) ≡ true
  owned_dead h t log k c known closes = elim (cases_Bool (is_owned_by t (cell_at h c).owner)) [
    | inr apart ↦ ap (λ b. not b || is_marked (worklist_at h t) c) apart
    | inl his ↦
        let sound : IsSound h = reached_sound h known.reached in
        let owner : (cell_at h c).owner ≡ owners.Thread t = thread_owner t (cell_at h c).owner his in
        let low : c < length h.cells = inside h c (live_owner (cell_at h c).owner (ap lives owner)) in
        let free : (row_at h t).hand ≡ hands.Free = free_hand (row_at h t).hand
        (hand_there n limit h t log (Close k) known closes.own) in
        ap (λ b. not b || is_marked (worklist_at h t) c) his
        ∙ elim (cases_lt c FIRST_MORTAL) [
          | inl fixed ↦ absurd (nobody_thread (sym (sound.immortals c fixed).owner ∙ owner))
          | inr mortal ↦
              uncounted_on h t c sound mortal owner (none_local h t log k c known closes sound mortal owner low) free
        ]
  ]
    where
      nobody_thread : owners.Nobody ≡ owners.Thread t → ⊥
      nobody_thread bad = absurd (cc)

      none_local : (h : Heap) (t : ℕ) (log : List LogItem) (k c : ℕ) → Known n limit h t log → MayClose n log k
          → IsSound h
          → FIRST_MORTAL ≤ c → (cell_at h c).owner ≡ owners.Thread t → c < length h.cells → (cell_at h c).local ≡ 0
      none_local h t log k c known closes sound mortal owner low =
          elim (cases_Bool (is_active (row_at h t).stage)) [
            | inl active ↦
                let his : is_mine t (row_at h t).stage (cell_at h c) ≡ true =
                ap (λ o. is_owned_by t o && is_active (row_at h t).stage) owner ∙ ap (λ b. (t == t) && b) active
                ∙ ap (λ b. b && true) (eq-eqb t t refl) in
                sym (ap (λ b. if b then (cell_at h c).local else 0) his) ∙ known.counts c mortal
                ∙ closes.none c mortal (omega (arith, low, known.cells))
            | inr off ↦ (sound.cells c mortal).rested t owner
                (ap (λ e. rests e (row_at h t).stage) (known_edition n limit h t log known) ∙ ap not off)
          ]

  all_owned : (h : Heap) (t : ℕ) (log : List LogItem) (k : ℕ) → Known n limit h t log → MayClose n log k → (m : ℕ)
      → owned_are_marked t h.cells (worklist_at h t) m ≡ true
  all_owned h t log k known closes zero = refl
  all_owned h t log k known closes (suc m) =
      both_true (all_owned h t log k known closes m) (owned_dead h t log k m known closes)

  may_close : (h : Heap) (t : ℕ) (log : List LogItem) (k : ℕ) → 0 < t → Known n limit h t log → MayClose n log k
      → thread_may h t (Close k) ≡ true
  may_close h t log k some_thread known closes =
      is_enabled n limit h t log (Close k) some_thread known closes.own refl
      (subst (λ e. may_leave e t h.cells (worklist_at h t) ≡ true) (sym (known_edition n limit h t log known))
      (all_owned h t log k known closes (length h.cells))) refl

  closed_open : (h : Heap) (t : ℕ) (log : List LogItem) (k : ℕ) → 0 < t → Known n limit h t log → MayClose n log k
      → is_closed (row_at h t).stage k ≡ false
  closed_open h t log k some_thread known allowed =
      let parts : May h t (Close k) = may_parts h t (Close k) (may_close h t log k some_thread known allowed) in
      next_open (row_at h t).stage k (and_parts _ _ (and_parts _ _ (and_parts _ _ parts.own).0).0).1

  closed : (h : Heap) (t : ℕ) (log : List LogItem) (k there : ℕ) → 0 < t → k < words_for n → Known n limit h t log
      → MayClose n log k → WordShows h (Queue t k) there
      → IsPlain n h t (Close k) (Queue t k) (bit_or there 9223372036854775808) there
  closed h t log k there some_thread inside known allowed shown =
      let s : Step = Close k in
      let sound : IsSound h = reached_sound h known.reached in
      let may : thread_may h t s ≡ true = may_close h t log k some_thread known allowed in
      let parts : May h t s = may_parts h t s may in
      let registered : is_registered h t ≡ true = stands_registered h t known.stood some_thread in
      let open_word : is_closed (row_at h t).stage k ≡ false = closed_open h t log k some_thread known allowed in
      let is : there ≡ word_at (queue_at h t) k = open_shows h t k there registered open_word shown in
      let row : row_at (kept_cells h t s) t ≡ record (row_at h t) {
        stage = stage_after (words_for (length h.cells)) s
            (row_at h t).stage;
      } = read_here h.rows t _ no_row parts.inside in
      plain_off n h t s (Queue t k) (bit_or there 9223372036854775808) there (record {
        may = may;
        target = refl;
        word = refl;
        shown = queue_shows (kept_cells h t s) t k (bit_or there 9223372036854775808) true
            (word_at (queue_at (kept_cells h t s) t) k)
            (ap (λ m. nat_lt 0 t && nat_lt t m) (Rattle.law.proofs.lasting.Ranges_Law.same_rows h t s None)
            ∙ registered)
            (ap (λ (r : Row). is_closed r.stage k) row ∙ now_closed (words_for (length h.cells)) k) refl
            (le_or_r there 9223372036854775808);
        told = told_open h t k there open_word is;
        puts_none = refl;
      })

  pub closes : (id : ℕ) (v : View) (slots : List (ℕ × Option B)) (k : ℕ) → v.active ≡ true → 0 < v.thread
      → v.thread ≤ MOST_THREADS → k < words_for n → MayClose n v.log k
      → Allows Rule n id (v, slots) (spot n (Queue v.thread k)) (λ there. bit_or there 9223372036854775808)
      (λ there me. (me ≡ (with_told (Stepped (Close k) there moves.Nothing) v, slots)) × AreQueued n k there)
  closes id v slots k active some_thread few inside allowed =
      let is : IsWord n (Queue v.thread k) = (omega (arith, few), inside) in
      tells_found shows n limit (AreQueued n k) id v slots (Queue v.thread k)
      (λ there. bit_or there 9223372036854775808)
      (λ there me. me ≡ (with_told (Stepped (Close k) there moves.Nothing) v, slots)) active some_thread is
      (λ h there known shown. bits_shown h v.thread v.log k there some_thread known
      (closed_open h v.thread v.log k some_thread known allowed) shown)
      (plain_step shows n limit id v slots (Close k) (Queue v.thread k) (λ there. bit_or there 9223372036854775808)
      (λ there. there) active some_thread is
      (λ h there known shown small. closed h v.thread v.log k there some_thread inside known allowed shown))

  -- ---- Reopen

  reopened : (h : Heap) (t : ℕ) (log : List LogItem) (k there : ℕ) → 0 < t → k < words_for n → Known n limit h t log
      → MayStep n log (Reopen k) → WordShows h (Queue t k) there
      → IsPlain n h t (Reopen k) (Queue t k) 0 0
  reopened h t log k there some_thread inside known allowed shown =
      let s : Step = Reopen k in
      let sound : IsSound h = reached_sound h known.reached in
      let may : thread_may h t s ≡ true = is_enabled n limit h t log s some_thread known allowed.own refl refl refl in
      let parts : May h t s = may_parts h t s may in
      let registered : is_registered h t ≡ true = stands_registered h t known.stood some_thread in
      let row : row_at (kept_cells h t s) t ≡ record (row_at h t) {
        stage = stage_after (words_for (length h.cells)) s
            (row_at h t).stage;
      } = read_here h.rows t _ no_row parts.inside in
      let queue : queue_at (kept_cells h t s) t ≡ queue_at h t = read_here h.queues t _ []
      (omega (arith, sound.shaped.queues, parts.inside)) in
      let closed_word : is_closed (row_at h t).stage k ≡ true = opens_closed (row_at h t).stage k
      (and_parts _ _ parts.own).1 in
      plain_off n h t s (Queue t k) 0 0 (record {
        may = may;
        target = refl;
        word = refl;
        shown = queue_shows (kept_cells h t s) t k 0 false 0
            (ap (λ m. nat_lt 0 t && nat_lt t m) (Rattle.law.proofs.lasting.Ranges_Law.same_rows h t s None)
            ∙ registered)
            (ap (λ (r : Row). is_closed r.stage k) row ∙ now_open (words_for (length h.cells)) k)
            (ap (λ (q : List ℕ). word_at q k) queue ∙ (sound.threads t).closed k closed_word) refl;
        told = refl;
        puts_none = refl;
      })

  pub reopens : (id : ℕ) (v : View) (slots : List (ℕ × Option B)) (k : ℕ) → v.active ≡ true → 0 < v.thread
      → v.thread ≤ MOST_THREADS → k < words_for n → MayStep n v.log (Reopen k)
      → Allows Rule n id (v, slots) (spot n (Queue v.thread k)) (λ there. 0)
      (λ there me. me ≡ (with_told (Stepped (Reopen k) 0 moves.Nothing) v, slots))
  reopens id v slots k active some_thread few inside allowed =
      plain_step shows n limit id v slots (Reopen k) (Queue v.thread k) (λ there. 0) (λ there. 0) active some_thread
      (omega (arith, few), inside)
      (λ h there known shown small. reopened h v.thread v.log k there some_thread inside known allowed shown)

  -- ---- Nudge and Wake

  nudged : (h : Heap) (t : ℕ) (log : List LogItem) (q k there : ℕ) → 0 < t → Known n limit h t log → MayNudge n log q k
      → WordShows h (NotifyWord q) there
      → IsPlain n h t (Nudge q k) (NotifyWord q) (bit_or there (2 ^ (k / 32))) there
  nudged h t log q k there some_thread known tells shown =
      let s : Step = Nudge q k in
      let sound : IsSound h = reached_sound h known.reached in
      let registered : is_registered h q ≡ true = known.owners q tells.seen tells.some_thread tells.few in
      let low : q < length h.rows = ltb-true _ _ (and_parts (nat_lt 0 q) (nat_lt q (length h.rows)) registered).1 in
      plain_off n h t s (NotifyWord q) (bit_or there (2 ^ (k / 32))) there (record {
        may = is_enabled n limit h t log s some_thread known tells.own refl
            (both_true registered (lt-ltb _ _ (subst (λ m. k < words_for m) (sym known.cells) tells.word))) refl;
        target = refl;
        word = refl;
        shown = ap (λ m. bit_or m (2 ^ (k / 32))) shown
            ∙ sym (read_here h.notify_words q _ 0 (omega (arith, sound.shaped.notify_words, low)));
        told = shown;
        puts_none = refl;
      })

  pub nudges : (id : ℕ) (v : View) (slots : List (ℕ × Option B)) (q k : ℕ) → v.active ≡ true → 0 < v.thread
      → MayNudge n v.log q k
      → Allows Rule n id (v, slots) (spot n (NotifyWord q)) (λ there. bit_or there (2 ^ (k / 32)))
      (λ there me. me ≡ (with_told (Stepped (Nudge q k) there moves.Nothing) v, slots))
  nudges id v slots q k active some_thread tells =
      plain_step shows n limit id v slots (Nudge q k) (NotifyWord q) (λ there. bit_or there (2 ^ (k / 32)))
      (λ there. there) active some_thread (omega (arith, tells.few))
      (λ h there known shown small. nudged h v.thread v.log q k there some_thread known tells shown)

  woken : (h : Heap) (t : ℕ) (log : List LogItem) (there : ℕ) → 0 < t → Known n limit h t log → MayStep n log Wake
      → WordShows h (NotifyWord t) there → IsPlain n h t Wake (NotifyWord t) 0 there
  woken h t log there some_thread known allowed shown =
      let sound : IsSound h = reached_sound h known.reached in
      let may : thread_may h t Wake ≡ true = is_enabled n limit h t log Wake some_thread known allowed.own refl
      refl refl in
      plain_off n h t Wake (NotifyWord t) 0 there (record {
        may = may;
        target = refl;
        word = refl;
        shown = sym (read_here h.notify_words t 0 0
            (omega (arith, sound.shaped.notify_words, (may_parts h t Wake may).inside)));
        told = shown;
        puts_none = refl;
      })

  pub wakes : (id : ℕ) (v : View) (slots : List (ℕ × Option B)) → v.active ≡ true → 0 < v.thread
      → v.thread ≤ MOST_THREADS → MayStep n v.log Wake
      → Allows Rule n id (v, slots) (spot n (NotifyWord v.thread)) (λ there. 0)
      (λ there me. me ≡ (with_told (Stepped Wake there moves.Nothing) v, slots))
  wakes id v slots active some_thread few allowed =
      plain_step shows n limit id v slots Wake (NotifyWord v.thread) (λ there. 0) (λ there. there) active some_thread
      (omega (arith, few))
      (λ h there known shown small. woken h v.thread v.log there some_thread known allowed shown)
