-- From what reached worlds keep to the theorem on references: counts are holders, nothing is lost, the ledger is exact.
use Rattle.std.proofs.Common.{◌≡◌, ℕ, ◌+◌, ◌*◌, ◌^◌, ◌<◌, ◌≤◌, ◌==◌, ◌&&◌, ◌||◌, Bool, true, false, ℤ, pos, ◌≤ℤ◌, List}
use Rattle.std.proofs.Common.{[], ◌∷◌, ◌++◌, suc, length, get_or, sum_by, refl, sym, ◌∙◌, ap, inl, inr, arith}
use Rattle.std.proofs.Common.{length-append}
use Rattle.std.proofs.lemmas.List.Sums.{sum_by-cons}
use Rattle.std.proofs.lemmas.Bool.{cases_eq, cases_lt, eq-eqb, ne_eqb, eqb-true, and_parts, ltb-false, not-true}
use Rattle.std.proofs.lemmas.Bool.{true≢false}
use Rattle.std.proofs.lemmas.Int.{ints}
use Rattle.brc_model.specs.declared.holder.Holder.{Holder}
use Rattle.brc_model.specs.declared.holder.Holder.TheVariants as holders
use Rattle.brc_words.specs.declared.limits.TheConstants.{FIRST_MORTAL, MOST_BIRTHS}
use Rattle.brc_words.specs.declared.owner.Owner.{Owner}
use Rattle.brc_words.specs.declared.owner.Owner.TheVariants as owners
use Rattle.brc_words.specs.declared.state.State.{State}
use Rattle.brc_words.specs.declared.state.State.TheVariants as states
use Rattle.law.specs.world.Phases.{is_gripping, is_offering}
use Rattle.law.specs.declared.world.cell.Cell.{Cell}
use Rattle.law.specs.declared.world.row.Row.{Row}
use Rattle.law.specs.declared.world.row.Hand.{Hand}
use Rattle.law.specs.declared.world.row.Hand.TheVariants as hands
use Rattle.law.specs.declared.world.row.Phase.{Phase}
use Rattle.law.specs.declared.world.row.Phase.TheVariants as phases
use Rattle.law.specs.world.Lists.{one, times, names, entry_times, bit_of, is_marked}
use Rattle.law.specs.world.Heap.{Heap, cell_at, row_at, popped_at, worklist_at, no_row}
use Rattle.law.specs.world.Steps.{is_at, is_zero, is_queued, is_merged}
use Rattle.law.specs.world.Holding.{Headline, IsInHand, buries, each, if_so, holders_of, lives, lives_at, carries}
use Rattle.law.specs.world.Holding.{count_of_state}
use Rattle.law.specs.world.Sound.{IsSound, PhaseFits, grips_by_owner, grips, gripped, held, is_threads, offering}
use Rattle.law.specs.world.Sound.{offered}
use Rattle.law.proofs.world.Naming.{Unheld, unheld, live_counts, sum_one, busy_carrier}

-- ---- the list of holders is as long as the sums say

length_each : {A : Type 0} (f : ℕ → A → List Holder) (g : A → ℕ) → ((i : ℕ) (x : A) → length (f i x) ≡ g x)
    → (i : ℕ) (xs : List A) → length (each f i xs) ≡ sum_by g xs
length_each {A} f g same i [] = refl
length_each {A} f g same i (x ∷ xs) = omega (
  arith,
  length-append (f i x) (each f (suc i) xs),
  sum_by-cons g x xs,
  same i x,
  length_each f g same (suc i) xs,
)

length_if_so : (b : Bool) (holder : Holder) → length (if_so b holder) ≡ one b
length_if_so true holder = refl
length_if_so false holder = refl

bit_once : (n : ℕ) → n < 2 → one (n == 1) ≡ n
bit_once n low = elim (cases_eq n 1) [
  | inl same ↦ ap one (eq-eqb n 1 same) ∙ sym same
  | inr other ↦ ap one (ne_eqb n 1 other) ∙ (omega (arith, low, other))
]

pub length-holders : (h : Heap) (q : ℕ) → length (holders_of h q) ≡ held h q
length-holders h q =
    let frames : List Holder = each (λ t frame. each (λ k x. if_so (names q x) (holders.Frame t k)) 0 frame) 0
    h.frames in
    let entries : List Holder = each (λ c entries. each (λ i x. if_so (x == q) (holders.Entry c i)) 0 entries) 0
    h.entries in
    let queues : List Holder = each (λ t words. if_so (bit_of words q == 1) (holders.Queue t q)) 0 h.queues in
    let popped : List Holder = each (λ t words. if_so (bit_of words q == 1) (holders.Popped t q)) 0 h.popped in
    let rows : List Holder = each (λ t row. if_so (carries q row.hand) (holders.Hand t q)) 0 h.rows in
    omega (
      arith,
      length-append (frames ++ entries ++ queues ++ popped) rows,
      length-append (frames ++ entries ++ queues) popped,
      length-append (frames ++ entries) queues,
      length-append frames entries,
      length_each (λ t frame. each (λ k x. if_so (names q x) (holders.Frame t k)) 0 frame) (times q)
          (λ t frame. length_each (λ k x. if_so (names q x) (holders.Frame t k)) (λ x. one (names q x))
          (λ k x. length_if_so (names q x) (holders.Frame t k)) 0 frame) 0 h.frames,
      length_each (λ c entries. each (λ i x. if_so (x == q) (holders.Entry c i)) 0 entries) (entry_times q)
          (λ c entries. length_each (λ i x. if_so (x == q) (holders.Entry c i)) (λ x. one (x == q))
          (λ i x. length_if_so (x == q) (holders.Entry c i)) 0 entries) 0 h.entries,
      length_each (λ t (words : List ℕ). if_so (bit_of words q == 1) (holders.Queue t q)) (λ words. bit_of words q)
          (λ t words. length_if_so (bit_of words q == 1) (holders.Queue t q) ∙ bit_once (bit_of words q) (omega arith))
          0 h.queues,
      length_each (λ t (words : List ℕ). if_so (bit_of words q == 1) (holders.Popped t q)) (λ words. bit_of words q)
          (λ t words. length_if_so (bit_of words q == 1) (holders.Popped t q) ∙ bit_once (bit_of words q) (omega arith))
          0 h.popped,
      length_each (λ t (row : Row). if_so (carries q row.hand) (holders.Hand t q)) (λ row. one (carries q row.hand))
          (λ t row. length_if_so (carries q row.hand) (holders.Hand t q)) 0 h.rows,
    )

pub no_holders : (xs : List Holder) → length xs ≡ 0 → xs ≡ []
no_holders [] h = refl
no_holders (x ∷ xs) h = absurd (omega (arith, h))

-- a live mortal object
pub record Lives (h : Heap) (c : ℕ) : Type 0 where
  pub mortal : FIRST_MORTAL ≤ c
  pub owner : lives (cell_at h c).owner ≡ true

pub live_parts : (h : Heap) (c : ℕ) → lives_at h c ≡ true → Lives h c
live_parts h c live =
    let parts = and_parts _ _ live in
    record { mortal = ltb-false c FIRST_MORTAL (not-true _ parts.0); owner = parts.1 }

-- ---- an object without holders is in some thread's hand

-- a sum that isn't 0 has a term that isn't
pub sum_some : {A : Type 0} (f : A → ℕ) (xs : List A) (d : A) → 1 ≤ sum_by f xs → (i : ℕ) × (1 ≤ f (get_or xs i d))
sum_some {A} f [] d some = absurd (omega (arith, some))
sum_some {A} f (x ∷ xs) d some = elim (cases_lt 0 (f x)) [
  | inl here ↦ (0, omega (arith, here))
  | inr none ↦ let rest : (i : ℕ) × (1 ≤ f (get_or xs i d)) =
      sum_some f xs d (omega (arith, some, sum_by-cons f x xs, none)) in
      (suc rest.0, rest.1)
]

pub from_one : (b : Bool) → 1 ≤ one b → b ≡ true
from_one true h = refl
from_one false h = absurd (omega (arith, h))

-- what is owned by nobody or a thread and held by nothing is gripped
grip_of_owner : (owner : Owner) (state : State) (local : ℕ) (count : ℤ) → lives owner ≡ true
    → one (is_queued state && is_threads owner) ≡ 0
    → ((t : ℕ) → owner ≡ owners.Thread t → is_merged state ≡ false) → (state ≡ states.Default → pos 0 ≤ℤ count)
    → count_of_state state local count ≡ pos 0 → 1 ≤ grips_by_owner owner state local count
grip_of_owner owners.Nobody states.Default local count live asked unmerged default total = omega arith
grip_of_owner owners.Nobody states.Queued local count live asked unmerged default total = omega arith
grip_of_owner owners.Nobody states.Merged local count live asked unmerged default total =
    omega (arith, ap (λ n. one (is_zero n)) total)
grip_of_owner (owners.Thread t) states.Default local count live asked unmerged default total =
    let none : local ≡ 0 = omega (arith, ints, total, default refl) in
    omega (arith, ap one (eq-eqb local 0 none))
grip_of_owner (owners.Thread t) states.Queued local count live asked unmerged default total =
    absurd (omega (arith, asked))
grip_of_owner (owners.Thread t) states.Merged local count live asked unmerged default total =
    absurd (true≢false (unmerged t refl))
grip_of_owner (owners.Claimed t) state local count live asked unmerged default total = absurd (true≢false (sym live))
grip_of_owner owners.Free state local count live asked unmerged default total = absurd (true≢false (sym live))

-- the phases in which a hand is about to bury its cell
abbrev burying : ℕ → Hand → Bool
burying c hand = is_at phases.Zero c hand || is_at phases.Over c hand || is_at phases.Untied c hand || is_at
    phases.Offered c hand || is_at phases.Yielding c hand

buried_by_hand : (h : Heap) (t c : ℕ) (p : Phase) → burying c (hands.Busy p c) ≡ true
    → (row_at h t).hand ≡ hands.Busy p c → buries h c t ≡ true
buried_by_hand h t c p soon busy =
    ap (λ hand. burying c hand || is_marked (worklist_at h t) c) busy
    ∙ ap (λ b. b || is_marked (worklist_at h t) c) soon

-- a hand that grips a live object which nothing holds is about to bury it
buried_by_grip : (h : Heap) (t c : ℕ) (p : Phase) → IsSound h → Unheld h c → lives (cell_at h c).owner ≡ true
    → (row_at h t).hand ≡ hands.Busy p c → is_gripping p ≡ true
    → PhaseFits h.edition t (row_at h t) (popped_at h t) (cell_at h c) (row_at h (cell_at h c).bearer).stage c p
    → buries h c t ≡ true
buried_by_grip h t c phases.Claimed sound none live busy grip fits =
    absurd (true≢false (sym live ∙ ap lives fits.claimed))
buried_by_grip h t c phases.Counted sound none live busy grip fits =
    absurd (true≢false (sym live ∙ ap lives fits.0.claimed))
buried_by_grip h t c phases.Ready sound none live busy grip fits =
    absurd (true≢false (sym live ∙ ap lives fits.0.claimed))
buried_by_grip h t c phases.Zero sound none live busy grip fits = buried_by_hand h t c phases.Zero
    (ap (λ b. b || false || false || false || false) (eq-eqb c c refl)) busy
buried_by_grip h t c phases.Over sound none live busy grip fits = buried_by_hand h t c phases.Over
    (ap (λ b. b || false || false || false) (eq-eqb c c refl)) busy
buried_by_grip h t c phases.Untied sound none live busy grip fits = buried_by_hand h t c phases.Untied
    (ap (λ b. b || false || false) (eq-eqb c c refl)) busy
buried_by_grip h t c phases.Asked sound none live busy grip fits = absurd (true≢false (sym grip))
buried_by_grip h t c phases.Shut sound none live busy grip fits = absurd (true≢false (sym grip))
buried_by_grip h t c phases.Taking sound none live busy grip fits =
    absurd (omega (arith, none.hands t, busy_carrier phases.Taking c (row_at h t).hand refl busy))
buried_by_grip h t c phases.Held sound none live busy grip fits = absurd (true≢false (sym grip))
buried_by_grip h t c phases.Popping sound none live busy grip fits = absurd (omega (arith, none.bits t, fits.1))
buried_by_grip h t c phases.Offered sound none live busy grip fits = absurd (true≢false (sym grip))
buried_by_grip h t c phases.Yielding sound none live busy grip fits = buried_by_hand h t c phases.Yielding
    (eq-eqb c c refl) busy

-- so is a hand that is about to hand it over
offering_hand : (c : ℕ) (hand : Hand) → offering c hand ≡ true → hand ≡ hands.Busy phases.Offered c
offering_hand c hands.Free is = absurd (true≢false (sym is))
offering_hand c (hands.Busy phases.Offered d) is = ap (hands.Busy phases.Offered) (eqb-true d c is)
offering_hand c (hands.Busy p d) is = absurd (true≢false (sym is))

buried_by_offer : (h : Heap) (t c : ℕ) → offering c (row_at h t).hand ≡ true → buries h c t ≡ true
buried_by_offer h t c is = buried_by_hand h t c phases.Offered (ap (λ b. b || false) (eq-eqb c c refl))
    (offering_hand c _ is)

or_true : (a b : Bool) → b ≡ true → (a || b) ≡ true
or_true true b h = refl
or_true false b h = h

-- which hand grips
pub gripping_hand : (c : ℕ) (hand : Hand) → grips c hand ≡ true
    → (p : Phase) × (hand ≡ hands.Busy p c) × (is_gripping p ≡ true)
gripping_hand c hands.Free g = absurd (true≢false (sym g))
gripping_hand c (hands.Busy p d) g = let parts = and_parts _ _ g in
    (p, ap (hands.Busy p) (eqb-true d c parts.1), parts.0)

pub found_in_hand : (h : Heap) (c : ℕ) → IsSound h → lives_at h c ≡ true → held h c ≡ 0 → IsInHand h c
found_in_hand h c sound live empty =
    let alive : Lives h c = live_parts h c live in
    let none : Unheld h c = unheld h c empty in
    let x : Cell = cell_at h c in
    let fits = sound.cells c alive.mortal in
    let total : count_of_state x.state x.local x.count ≡ pos 0 = sym (live_counts x alive.owner)
    ∙ sound.counted c alive.mortal ∙ ap pos empty in
    elim (cases_lt 0 (offered h c)) [
      | inl some ↦
          let found : (t : ℕ) × (1 ≤ one (offering c (row_at h t).hand)) =
          sum_some (λ (row : Row). one (offering c row.hand)) h.rows no_row (omega (arith, some)) in
          (found.0, buried_by_offer h found.0 c (from_one _ found.1))
      | inr quiet ↦ found_gripped h c sound alive none total
          (omega (arith, sound.least c alive.mortal, none.asks, quiet))
    ]
  where
    found_gripped : (h : Heap) (c : ℕ) → IsSound h → Lives h c → Unheld h c
        → count_of_state (cell_at h c).state (cell_at h c).local (cell_at h c).count ≡ pos 0
        → one (is_queued (cell_at h c).state && is_threads (cell_at h c).owner) ≡ 0 → IsInHand h c
    found_gripped h c sound alive none total asked =
        let x : Cell = cell_at h c in
        let fits = sound.cells c alive.mortal in
        let grip : 1 ≤ gripped h c =
        omega (
          arith,
          sound.gripped c alive.mortal,
          grip_of_owner x.owner x.state x.local x.count alive.owner asked
              fits.owned_unmerged fits.default total,
        ) in
        elim (cases_lt 0 (sum_by (λ (marks : List Bool). one (is_marked marks c)) h.worklists)) [
          | inl some ↦
              let found : (t : ℕ) × (1 ≤ one (is_marked (worklist_at h t) c)) =
              sum_some (λ (marks : List Bool). one (is_marked marks c)) h.worklists [] (omega (arith, some)) in
              (found.0, or_true _ _ (from_one _ found.1))
          | inr no_marks ↦
              let found : (t : ℕ) × (1 ≤ one (grips c (row_at h t).hand)) =
              sum_some (λ (row : Row). one (grips c row.hand)) h.rows no_row (omega (arith, no_marks, grip)) in
              let hand : (p : Phase) × ((row_at h found.0).hand ≡ hands.Busy p c) × (is_gripping p ≡ true) =
              gripping_hand c _ (from_one _ found.1) in (
                found.0,
                buried_by_grip h found.0 c hand.0 sound none alive.owner hand.1 hand.2
                    (sound.hands found.0 c hand.0 hand.1).fits,
              )
        ]

pub sound_headline : (h : Heap) → IsSound h → Headline h
sound_headline h sound = record {
  counted = λ c live. let alive : Lives h c = live_parts h c live in
      sym (live_counts (cell_at h c) alive.owner) ∙ sound.counted c alive.mortal ∙ ap pos (sym (length-holders h c));
  in_hand = λ c live empty. found_in_hand h c sound live (sym (length-holders h c)
      ∙ ap (λ (xs : List Holder). length xs) empty);
  ledger = sound.ledger;
}

-- ---- the ledgers fit their words

sum_bound : {A : Type 0} (f : A → ℕ) (xs : List A) (d : A) → ((i : ℕ) → f (get_or xs i d) ≤ MOST_BIRTHS)
    → sum_by f xs ≤ length xs * MOST_BIRTHS
sum_bound {A} f [] d most = omega arith
sum_bound {A} f (x ∷ xs) d most = omega (arith, sum_by-cons f x xs, most 0, sum_bound f xs d (λ i. most (suc i)))

pub allocs_fit : (h : Heap) → IsSound h → (t : ℕ) → (row_at h t).allocs + 1 < 2 ^ 64
allocs_fit h sound t = omega (arith, (sound.threads t).births)

pub frees_fit : (h : Heap) → IsSound h → (t : ℕ) → (row_at h t).frees + 1 < 2 ^ 64
frees_fit h sound t =
    omega (
      arith,
      sum_one (λ (row : Row). row.frees) h.rows t no_row refl,
      sound.ledger,
      sum_bound (λ (row : Row). row.allocs) h.rows no_row (λ s. (sound.threads s).births),
      sound.shaped.threads,
      sound.past.0,
      sound.past.1,
    )

-- the births, and the frees, of all registrations together
pub sums_fit : (h : Heap) → IsSound h → (sum_by (λ row. row.allocs) h.rows + h.past_allocs < 2 ^ 64)
    × (sum_by (λ row. row.frees) h.rows + h.past_frees < 2 ^ 64)
sums_fit h sound =
    let allocs : sum_by (λ row. row.allocs) h.rows ≤ length h.rows * MOST_BIRTHS =
    sum_bound (λ (row : Row). row.allocs) h.rows no_row (λ s. (sound.threads s).births) in (
      omega (arith, allocs, sound.shaped.threads, sound.past.0, sound.past.1),
      omega (arith, allocs, sound.ledger, sound.shaped.threads, sound.past.0, sound.past.1),
    )

-- one thread's ledger can join the past
pub past_fits : (h : Heap) → IsSound h → (t : ℕ) → (h.past_allocs + (row_at h t).allocs < 2 ^ 64)
    × (h.past_frees + (row_at h t).frees < 2 ^ 64)
past_fits h sound t =
    let sums = sums_fit h sound in (
      omega (arith, sums.0, sum_one (λ (row : Row). row.allocs) h.rows t no_row refl),
      omega (arith, sums.1, sum_one (λ (row : Row). row.frees) h.rows t no_row refl),
    )
