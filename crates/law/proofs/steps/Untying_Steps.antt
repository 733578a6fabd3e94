-- Untie: a thread makes an object nobody's, at count 0, to hand it over, or for a popped entry.
use Rattle.std.proofs.Common.{◌≡◌, ◌≢◌, ℕ, ◌<◌, ◌%◌, not, true, false, List, length, Option, refl, sym, ◌∙◌, ap, subst, inl}
use Rattle.std.proofs.Common.{inr, arith}
use Rattle.std.proofs.lemmas.Bool.{eqb-true, eq-eqb, cases_Bool, true≢false}
use Rattle.std.specs.Cmp.Derive.{both_true}
use Rattle.atomic_table.specs.Table.{State as Table, Allows}
use Rattle.brc_words.specs.declared.owner.Owner.TheVariants as owners
use Rattle.law.specs.declared.world.cell.Cell.{Cell}
use Rattle.law.specs.declared.world.event.Step.{Step}
use Rattle.law.specs.declared.world.event.Step.TheVariants.{Untie}
use Rattle.law.specs.declared.world.row.Hand.TheVariants as hands
use Rattle.law.specs.declared.world.row.Phase.TheVariants as phases
use Rattle.law.specs.world.Lists.{bit_of}
use Rattle.law.specs.world.Heap.{Heap, cell_at, row_at, popped_at}
use Rattle.law.specs.world.Holding.{lives}
use Rattle.law.specs.world.Runs.{IsReached}
use Rattle.law.specs.world.Phases.{is_active_phase}
use Rattle.law.specs.declared.world.row.Phase.{Phase}
use Rattle.law.specs.declared.world.row.Row.{Row}
use Rattle.law.specs.world.Sound.{IsSound, is_active_hand}
use Rattle.law.proofs.world.Reached.{reached_sound}
use Rattle.law.specs.world.Steps.{stepped, untie_ok, untied_ok, is_owned_by, is_queued, is_active, is_shut_hand}
use Rattle.law.specs.lasting.Staying.{Lasts, PoppedOwn}
use Rattle.law.proofs.lasting.Lasting.{live_owner}
use Rattle.law.proofs.lasting.Progress.{inside}
use Rattle.law.proofs.lasting.Telling.{hand_tells, popped_tells, popped_lasts}
use Rattle.law.specs.declared.known.word.Field.TheVariants.{Owner, Shared}
use Rattle.law.specs.declared.known.word.Word.TheVariants.{Of}
use Rattle.law.specs.known.Free_Words.{ShowsOwner}
use Rattle.law.specs.known.Items.{WordShows}
use Rattle.law.specs.declared.rule.contents.Contents.{Contents}
use Rattle.law.specs.declared.rule.told.Moved.TheVariants as moves
use Rattle.law.specs.declared.rule.told.LogItem.{LogItem}
use Rattle.law.specs.declared.rule.told.LogItem.TheVariants.{Stepped}
use Rattle.law.specs.declared.rule.view.View.{View}
use Rattle.law.specs.rule.Layout.{spot}
use Rattle.law.specs.rule.Rule.{with_told, Kept}
use Rattle.law.specs.rule.Seen.{part_seen, own_may}
use Rattle.law.specs.steps.Owing.{UntiesOver, UntiesOffered, UntiesPopped}
use Rattle.law.proofs.rule.Knowing.{Known, is_enabled}
use Rattle.law.proofs.steps.Local_Steps.{fits_cell, read_cell}
use Rattle.law.proofs.steps.Plain_Steps.{IsPlain, plain_on, stays_on, plain_step}
use Rattle.law.proofs.rule.Since.{since}
use Rattle.law.proofs.rule.Noting.{unmerged_word, part_own, hand_in, bit_in}

-- ---- what the three ways have in common

-- the object lives, and the hand allows the step
record MayUntie (h : Heap) (t c : ℕ) : Type 0 where
  live : lives (cell_at h c).owner ≡ true
  ok : untied_ok t (row_at h t).hand (cell_at h c) ≡ true
  active : is_active (row_at h t).stage ≡ true
  unshut : is_shut_hand (row_at h t).hand ≡ false

-- a thread that has an object in its hand to merge it or to hand it over is active
pub hand_active : (h : Heap) (t c : ℕ) (p : Phase) → IsSound h → (row_at h t).hand ≡ hands.Busy p c
    → is_active_phase p ≡ true → is_active (row_at h t).stage ≡ true
hand_active h t c p sound busy owns = elim (cases_Bool (is_active (row_at h t).stage)) [
  | inl active ↦ active
  | inr off ↦ absurd (true≢false (sym owns ∙ sym (ap is_active_hand busy) ∙ (sound.threads t).inactive_hand off))
]

unties : (n limit : ℕ) (h : Heap) (t : ℕ) (log : List LogItem) (c : ℕ) → 0 < t → Known n limit h t log
    → own_may n (part_seen n log) (Untie c) ≡ true → MayUntie h t c
    → IsPlain n h t (Untie c) (Of Owner c) 0 0
unties n limit h t log c some_thread known own ways =
    let s : Step = Untie c in
    let low : c < length h.cells = inside h c (live_owner _ ways.live) in
    plain_on n h t s c (Of Owner c) 0 0 (record {
      may = is_enabled n limit h t log s some_thread known own (both_true ways.active (ap not ways.unshut)) refl
          (fits_cell n limit h t log s c known refl low ways.ok);
      target = refl;
      word = refl;
      shown = subst (λ o. ShowsOwner (length (stepped h t s c).rows) o 0)
          (sym (ap (λ (y : Cell). y.owner) (read_cell h t s c low))) refl;
      told = refl;
      finds_none = refl;
      puts_none = refl;
      takes_none = refl;
      stays = stays_on h t s c low refl refl
          (record { free = λ bad. absurd (nobody_free bad); lives = λ is. ways.live; mutex = refl });
    })
  where
    nobody_free : owners.Nobody ≡ owners.Free → ⊥
    nobody_free bad = absurd (cc)

-- ---- at count 0

over_way : (n limit : ℕ) (h : Heap) (t : ℕ) (log : List LogItem) (c : ℕ) → Known n limit h t log → UntiesOver n log c
    → MayUntie h t c
over_way n limit h t log c known way =
    let busy : (row_at h t).hand ≡ hands.Busy phases.Over c = hand_in n limit h t log log (hands.Busy phases.Over c)
    known refl way.hand in
    record {
      live = ap lives (hand_tells h t c phases.Over known.reached busy).1.0;
      ok = ap (λ g. untied_ok t g (cell_at h c)) busy;
      active = hand_active h t c phases.Over (reached_sound h known.reached) busy refl;
      unshut = ap is_shut_hand busy;
    }

-- ---- to be handed over

offered_way : (n limit : ℕ) (h : Heap) (t : ℕ) (log : List LogItem) (c : ℕ) → Known n limit h t log
    → UntiesOffered n log c → MayUntie h t c
offered_way n limit h t log c known way =
    let busy : (row_at h t).hand ≡ hands.Busy phases.Offered c =
    hand_in n limit h t log log (hands.Busy phases.Offered c) known refl way.hand in
    record {
      live = ap lives (hand_tells h t c phases.Offered known.reached busy).1.0;
      ok = ap (λ g. untied_ok t g (cell_at h c)) busy;
      active = hand_active h t c phases.Offered (reached_sound h known.reached) busy refl;
      unshut = ap is_shut_hand busy;
    }

-- ---- for a popped entry

-- the thread's own object, asked for and popped
record Popped (h : Heap) (t c : ℕ) : Type 0 where
  local : ℕ
  own : PoppedOwn h t c local

own_popped_lasts : (t c : ℕ) → Lasts t (λ h. Popped h t c)
own_popped_lasts t c h e reached ok others was =
    record { local = was.local; own = popped_lasts t c was.local h e reached ok others was.own }

noted_unmerged : (h : Heap) (t c number : ℕ) → IsReached h → (row_at h t).hand ≡ hands.Free
    → bit_of (popped_at h t) c ≡ 1 → WordShows h (Of Shared c) number → number % 4 ≢ 3 → Popped h t c
noted_unmerged h t c number reached free bit found other = elim (popped_tells h t c reached free bit) [
  | inl merged ↦ absurd (unmerged_word (cell_at h c).count (cell_at h c).state number found other merged)
  | inr his ↦ record {
    local = (cell_at h c).local;
    own = record {
      popped = bit;
      owner = his.0;
      state = his.1;
      count = refl;
    };
  }
]

popped_way : (n limit : ℕ) (h : Heap) (t : ℕ) (log : List LogItem) (c number : ℕ) → 0 < t → Known n limit h t log
    → UntiesPopped n log c number → MayUntie h t c
popped_way n limit h t log c number some_thread known way =
    let bit : bit_of (part_seen n log).popped c ≡ 1 = eqb-true (bit_of (part_seen n log).popped c) 1
    (subst (λ g. untie_ok g (part_seen n log).popped c ≡ true) way.hand
    (part_own n (part_seen n log) (Untie c) way.own)) in
    let free : (row_at h t).hand ≡ hands.Free = hand_in n limit h t log log hands.Free known refl way.hand in
    let now : Popped h t c = since n limit h t log Shared c number (λ z. Popped z t c) some_thread known way.found
    (own_popped_lasts t c)
    (λ old before was same found. noted_unmerged old t c number was.reached
    (hand_in n limit old t before log hands.Free was same way.hand) (bit_in n limit old t before log c was same bit)
    found way.unmerged) in
    record {
      live = ap lives now.own.owner;
      ok = ap (λ g. untied_ok t g (cell_at h c)) free ∙ both_true (ap (is_owned_by t) now.own.owner ∙ eq-eqb t t refl)
          (ap is_queued now.own.state);
      active = ap (λ (r : Row). is_active r.stage) known.part.row_is ∙ way.active;
      unshut = ap is_shut_hand free;
    }

-- ---- the laws

module _ {B : Type 0} (shows : B → ℕ × Contents) (n limit : ℕ) where
  abbrev Rule : Table (Option B) View → Type 0
  Rule = Kept shows n limit

  pub unties_over : (id : ℕ) (v : View) (slots : List (ℕ × Option B)) (c : ℕ) → v.active ≡ true → 0 < v.thread → c < n
      → UntiesOver n v.log c
      → Allows Rule n id (v, slots) (spot n (Of Owner c)) (λ there. 0)
      (λ there me. me ≡ (with_told (Stepped (Untie c) 0 moves.Nothing) v, slots))
  unties_over id v slots c active some_thread low way =
      plain_step shows n limit id v slots (Untie c) (Of Owner c) (λ there. 0) (λ there. 0) active some_thread low
      (λ h there known shown small. unties n limit h v.thread v.log c some_thread known way.own
      (over_way n limit h v.thread v.log c known way))

  pub unties_offered : (id : ℕ) (v : View) (slots : List (ℕ × Option B)) (c : ℕ) → v.active ≡ true → 0 < v.thread
      → c < n → UntiesOffered n v.log c
      → Allows Rule n id (v, slots) (spot n (Of Owner c)) (λ there. 0)
      (λ there me. me ≡ (with_told (Stepped (Untie c) 0 moves.Nothing) v, slots))
  unties_offered id v slots c active some_thread low way =
      plain_step shows n limit id v slots (Untie c) (Of Owner c) (λ there. 0) (λ there. 0) active some_thread low
      (λ h there known shown small. unties n limit h v.thread v.log c some_thread known way.own
      (offered_way n limit h v.thread v.log c known way))

  pub unties_popped : (id : ℕ) (v : View) (slots : List (ℕ × Option B)) (c number : ℕ) → v.active ≡ true → 0 < v.thread
      → c < n → UntiesPopped n v.log c number
      → Allows Rule n id (v, slots) (spot n (Of Owner c)) (λ there. 0)
      (λ there me. me ≡ (with_told (Stepped (Untie c) 0 moves.Nothing) v, slots))
  unties_popped id v slots c number active some_thread low way =
      plain_step shows n limit id v slots (Untie c) (Of Owner c) (λ there. 0) (λ there. 0) active some_thread low
      (λ h there known shown small. unties n limit h v.thread v.log c some_thread known way.own
      (popped_way n limit h v.thread v.log c number some_thread known way))
