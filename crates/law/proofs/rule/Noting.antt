-- What a note tells of its cell, and what its thread's part says of hand and popped bits.
use Rattle.std.proofs.Common.{◌≡◌, ◌≢◌, ◌⊎◌, ℕ, ◌%◌, ◌||◌, true, ℤ, List, length, refl, ◌∙◌, ap, inl, inr}
use Rattle.std.proofs.Common.{arith}
use Rattle.std.proofs.lemmas.Bool.{and_parts, or_cases, eq-eqb}
use Rattle.std.specs.Cmp.Derive.{both_true}
use Rattle.brc_words.specs.declared.owner.Owner.{Owner}
use Rattle.brc_words.specs.declared.owner.Owner.TheVariants as owners
use Rattle.brc_words.specs.declared.state.State.{State}
use Rattle.brc_words.specs.declared.state.State.TheVariants as states
use Rattle.brc_words.specs.Owners.{word_of}
use Rattle.brc_words.specs.Shared.{bits_of}
use Rattle.law.specs.declared.world.event.Step.{Step}
use Rattle.law.specs.declared.world.event.Step.TheVariants.{MergeAdd}
use Rattle.law.specs.declared.world.row.Hand.{Hand}
use Rattle.law.specs.declared.world.row.Hand.TheVariants as hands
use Rattle.law.specs.declared.world.row.Phase.{Phase}
use Rattle.law.specs.declared.world.row.Phase.TheVariants as phases
use Rattle.law.specs.declared.world.row.Row.{Row}
use Rattle.law.specs.world.Lists.{bit_of}
use Rattle.law.specs.world.Phases.{has_reference}
use Rattle.law.specs.world.Heap.{Heap, cell_at, row_at, popped_at, words_for}
use Rattle.law.specs.world.Holding.{carries}
use Rattle.law.specs.world.Runs.{IsReached}
use Rattle.law.specs.world.Steps.{hand_ok, own_ok, is_at}
use Rattle.law.proofs.world.Naming.{busy_hand}
use Rattle.law.proofs.world.Reached.{reached_sound}
use Rattle.law.specs.lasting.Ranges.{OwnerFits}
use Rattle.law.specs.lasting.Staying.{Has}
use Rattle.law.proofs.lasting.Lasting.{held_live, has_held}
use Rattle.law.proofs.lasting.Telling.{hand_tells}
use Rattle.law.specs.declared.known.word.Field.TheVariants.{Owner as OwnerWord}
use Rattle.law.specs.declared.known.word.Word.TheVariants.{Of}
use Rattle.law.specs.known.Items.{Part, WordShows, shared_word}
use Rattle.law.proofs.known.Free_Law.{live_shown}
use Rattle.law.specs.declared.rule.told.LogItem.{LogItem}
use Rattle.law.specs.rule.Seen.{part_seen, own_may}
use Rattle.law.proofs.rule.Knowing.{Known}

-- ---- numbers

-- the shared word of a merged object ends in 3, and no other does
pub merged_word : (count : ℤ) (state : State) (number : ℕ) → number ≡ shared_word count state → number % 4 ≡ 3
    → state ≡ states.Merged
merged_word count states.Default number is ends = absurd (omega (arith, is, ends))
merged_word count states.Queued number is ends = absurd (omega (arith, is, ends))
merged_word count states.Merged number is ends = refl

pub unmerged_word : (count : ℤ) (state : State) (number : ℕ) → number ≡ shared_word count state → number % 4 ≢ 3
    → state ≢ states.Merged
unmerged_word count state number is other merged = other (omega (arith, is, ap bits_of merged))

-- an owner word of 0 is nobody's
pub nobodys_word : (threads : ℕ) (owner : Owner) → OwnerFits threads owner → 0 ≡ word_of owner → owner ≡ owners.Nobody
nobodys_word threads owners.Nobody fits is = refl
nobodys_word threads (owners.Thread s) fits is = absurd (omega (arith, is, fits.0))
nobodys_word threads (owners.Claimed s) fits is = absurd (omega (arith, is))
nobodys_word threads owners.Free fits is = absurd (omega (arith, is))

-- ---- the own part

pub part_hand : (n : ℕ) (part : Part) (s : Step) → own_may n part s ≡ true → hand_ok part.row.hand s ≡ true
part_hand n part s own = (and_parts _ _ (and_parts _ _ own).0).1

pub part_own : (n : ℕ) (part : Part) (s : Step) → own_may n part s ≡ true
    → own_ok (words_for n) part.row part.frame part.popped part.worklist part.has s ≡ true
part_own n part s own = (and_parts _ _ own).1

-- what the part of one log says is so in the world of another with the same part
pub hand_in : (n limit : ℕ) (h : Heap) (t : ℕ) (log now : List LogItem) (hand : Hand) → Known n limit h t log
    → part_seen n log ≡ part_seen n now → (part_seen n now).row.hand ≡ hand → (row_at h t).hand ≡ hand
hand_in n limit h t log now hand known same is = ap (λ (r : Row). r.hand) known.part.row_is
    ∙ ap (λ (p : Part). p.row.hand) same ∙ is

pub bit_in : (n limit : ℕ) (h : Heap) (t : ℕ) (log now : List LogItem) (c : ℕ) → Known n limit h t log
    → part_seen n log ≡ part_seen n now → bit_of (part_seen n now).popped c ≡ 1 → bit_of (popped_at h t) c ≡ 1
bit_in n limit h t log now c known same is = ap (λ (words : List ℕ). bit_of words c) known.part.popped_is
    ∙ ap (λ (p : Part). bit_of p.popped c) same ∙ is

-- ---- what the thread has

pub has_popped : (h : Heap) (t c : ℕ) → bit_of (popped_at h t) c ≡ 1 → Has h t c
has_popped h t c bit = inr (inr (inl bit))

pub has_in_hand : (h : Heap) (t c : ℕ) (p : Phase) → (row_at h t).hand ≡ hands.Busy p c → has_reference p ≡ true
    → Has h t c
has_in_hand h t c p busy refers = inr (inl (ap (carries c) busy ∙ both_true refers (eq-eqb c c refl)))

-- the owner word of an object that the thread has tells its owner
pub owner_told : (h : Heap) (t c number : ℕ) → IsReached h → Has h t c → WordShows h (Of OwnerWord c) number
    → number ≡ word_of (cell_at h c).owner
owner_told h t c number reached has shown = live_shown (length h.rows) (cell_at h c).owner number
    (held_live h c (reached_sound h reached) (has_held h t c has)) shown

-- ---- a merge by a note of the local count

-- the object was the thread's: it hands it over, or has popped a reference of it
abbrev pub IsMerging : Phase → Type 0
IsMerging p = (p ≡ phases.Popping) ⊎ (p ≡ phases.Yielding)

pub merging_words : (h : Heap) (t c : ℕ) (p : Phase) → IsReached h → (row_at h t).hand ≡ hands.Busy p c → IsMerging p
    → ((cell_at h c).owner ≡ owners.Nobody) × ((cell_at h c).state ≡ states.Queued)
merging_words h t c p reached busy which = elim which [
  | inl popping ↦ (hand_tells h t c phases.Popping reached (busy ∙ ap (λ q. hands.Busy q c) popping)).1
  | inr yielding ↦ (hand_tells h t c phases.Yielding reached (busy ∙ ap (λ q. hands.Busy q c) yielding)).1
]

-- whoever may add has the object in its hand, and it is nobody's
pub adding_hand : (hand : Hand) (c : ℕ) → hand_ok hand (MergeAdd c) ≡ true
    → (p : Phase) × (hand ≡ hands.Busy p c) × ((p ≡ phases.Taking) ⊎ IsMerging p)
adding_hand hand c at =
    elim (or_cases (is_at phases.Taking c hand || is_at phases.Popping c hand) (is_at phases.Yielding c hand) at) [
      | inr yielding ↦ (phases.Yielding, busy_hand phases.Yielding c hand yielding, inr (inr refl))
      | inl own ↦ elim (or_cases (is_at phases.Taking c hand) (is_at phases.Popping c hand) own) [
        | inl taking ↦ (phases.Taking, busy_hand phases.Taking c hand taking, inl refl)
        | inr popping ↦ (phases.Popping, busy_hand phases.Popping c hand popping, inr (inl refl))
      ]
    ]

pub adding_nobody : (h : Heap) (t c : ℕ) (p : Phase) → IsReached h → (row_at h t).hand ≡ hands.Busy p c
    → (p ≡ phases.Taking) ⊎ IsMerging p → (cell_at h c).owner ≡ owners.Nobody
adding_nobody h t c p reached busy which = elim which [
  | inl taking ↦ (hand_tells h t c phases.Taking reached (busy ∙ ap (λ q. hands.Busy q c) taking)).1.0
  | inr merging ↦ (merging_words h t c p reached busy merging).0
]
