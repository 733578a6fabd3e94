-- What a thread's hand, its popped bits and its own objects tell it, and that it stays so while others step.
use Rattle.std.proofs.Common.{◌≡◌, ◌≢◌, ℕ, ◌/◌, ◌≤◌, ◌||◌, not, Bool, true, false, if◌then◌else◌, List, [], sum_by}
use Rattle.std.proofs.Common.{Some, refl, sym, ◌∙◌, ap, subst, inl, inr, ◌⊎◌, arith}
use Rattle.std.proofs.lemmas.Bool.{cases_Bool, and_parts, le-ltb, true≢false}
use Rattle.brc_words.specs.declared.limits.TheConstants.{FIRST_MORTAL}
use Rattle.brc_words.specs.declared.owner.Owner.{Owner}
use Rattle.brc_words.specs.declared.owner.Owner.TheVariants as owners
use Rattle.brc_words.specs.declared.state.State.{State}
use Rattle.brc_words.specs.declared.state.State.TheVariants as states
use Rattle.law.specs.world.Phases.{is_gripping}
use Rattle.law.specs.declared.world.cell.Cell.{Cell}
use Rattle.law.specs.declared.world.edition.Edition.{Edition}
use Rattle.law.specs.declared.world.edition.Edition.TheVariants as editions
use Rattle.law.specs.declared.world.row.Stage.{Stage}
use Rattle.law.specs.declared.world.event.Event.{Event}
use Rattle.law.specs.declared.world.event.Step.{Step}
use Rattle.law.specs.declared.world.event.Step.TheVariants.{Claim, InitLocal, InitShared, Birth, LocalUp, LocalDown}
use Rattle.law.specs.declared.world.event.Step.TheVariants.{SeeZero, Free, Untie, MergeZero, SharedUp, SharedDown, Ask}
use Rattle.law.specs.declared.world.event.Step.TheVariants.{LastDown, Enqueue, Drain, MergeAdd, Close, Nudge, Wake}
use Rattle.law.specs.declared.world.event.Step.TheVariants.{Lock, Unlock, Register, Gather, Offer, Reopen}
use Rattle.law.specs.declared.world.row.Row.{Row}
use Rattle.law.specs.declared.world.row.Hand.TheVariants as hands
use Rattle.law.specs.declared.world.row.Phase.{Phase}
use Rattle.law.specs.declared.world.row.Phase.TheVariants as phases
use Rattle.law.specs.world.Lists.{one, is_marked, bit_of}
use Rattle.law.specs.world.Heap.{Heap, cell_at, row_at, popped_at, worklist_at, no_row, is_immortal}
use Rattle.law.specs.world.Steps.{enabled, after, target_at, cell_after, is_at, is_active, is_default, is_merged}
use Rattle.law.specs.world.Steps.{is_mine, is_nobody, is_zero, counts_up_locally, target_ok, is_closed}
use Rattle.law.specs.world.Runs.{IsReached}
use Rattle.law.specs.world.Holding.{carries, lives}
use Rattle.law.specs.world.Sound.{IsSound, HandFits, WorklistFits, Untied, grips, grips_by_owner, gripped, held, asks}
use Rattle.law.specs.world.Sound.{Offered, Yielding, ShutFits}
use Rattle.law.specs.lasting.Staying.{Lasts, SameOwn, IsOwning, StaysMerging, Yields, Adopts, PoppedOwn, PhaseTells}
use Rattle.law.specs.lasting.Staying.{PoppedTells}
use Rattle.law.proofs.world.Naming.{second, merged_state, nobody_owner, Ungripped, sole_grip, one-le, one-true, sum_one}
use Rattle.law.proofs.world.Naming.{sum_two, no_bit, busy_hand, busy_carrier, free_owner, third}
use Rattle.law.proofs.world.Asking.{May, OnCell, on_cell, Mine, mine, at_end, shut_out, from_queue, untie_way}
use Rattle.law.proofs.world.Asking.{handed_over}
use Rattle.law.proofs.world.Merging.{hand_grips, hand_gripped, gripped_local, gripped_unmerged, carried_held}
use Rattle.law.proofs.world.Merging.{popped_held, held_owner, closed_idle, active_now, live_thread}
use Rattle.law.proofs.lasting.Reasons.{event_cell}
use Rattle.law.proofs.lasting.Lasting.{others_own, not_bearing}
use Rattle.law.proofs.world.Counting.{sum_none, held_unmarked}
use Rattle.law.proofs.world.Headlines.{sum_some, from_one, gripping_hand}
use Rattle.law.proofs.world.Reached.{reached_sound}

-- ---- one reference on its way

pub asks_once : (h : Heap) (c : ℕ) → IsSound h → FIRST_MORTAL ≤ c → asks h c ≤ 1
asks_once h c sound mortal = omega (arith, sound.most c mortal, one-le (not (is_default (cell_at h c).state)))

-- two hands can't both have a reference on its way
two_carry : (h : Heap) (t u c : ℕ) → IsSound h → FIRST_MORTAL ≤ c → u ≢ t → one (carries c (row_at h t).hand) ≡ 1
    → one (carries c (row_at h u).hand) ≡ 1 → ⊥
two_carry h t u c sound mortal other mine his =
    omega (
      arith,
      asks_once h c sound mortal,
      mine,
      his,
      sum_two (λ (row : Row). one (carries c row.hand)) h.rows t u
          no_row refl other,
    )

-- nor a hand and a popped bit
carry_popped : (h : Heap) (t u c : ℕ) → IsSound h → FIRST_MORTAL ≤ c → one (carries c (row_at h t).hand) ≡ 1
    → bit_of (popped_at h u) c ≡ 1 → ⊥
carry_popped h t u c sound mortal carried popped =
    omega (
      arith,
      asks_once h c sound mortal,
      carried,
      popped,
      sum_one (λ (row : Row). one (carries c row.hand)) h.rows
          t no_row refl,
      sum_one (λ (words : List ℕ). bit_of words c) h.popped u [] (no_bit c),
    )

-- with one on its way the object isn't default
asked_for : (h : Heap) (c : ℕ) → IsSound h → FIRST_MORTAL ≤ c → 1 ≤ asks h c → is_default (cell_at h c).state ≡ false
asked_for h c sound mortal some = elim (cases_Bool (is_default (cell_at h c).state)) [
  | inr apart ↦ apart
  | inl default ↦ absurd (omega (arith, some, sound.most c mortal, ap (λ b. one (not b)) default))
]

carried_asks : (h : Heap) (t c : ℕ) → one (carries c (row_at h t).hand) ≡ 1 → 1 ≤ asks h c
carried_asks h t c carried =
    omega (arith, carried, sum_one (λ (row : Row). one (carries c row.hand)) h.rows t no_row refl)

popped_asks : (h : Heap) (t c : ℕ) → bit_of (popped_at h t) c ≡ 1 → 1 ≤ asks h c
popped_asks h t c popped = omega (arith, popped, sum_one (λ (words : List ℕ). bit_of words c) h.popped t [] (no_bit c))

between : (s : State) → is_default s ≡ false → is_merged s ≡ false → s ≡ states.Queued
between states.Default default merged = absurd (true≢false default)
between states.Queued default merged = refl
between states.Merged default merged = absurd (true≢false merged)

-- ---- what a hand tells

-- somebody grips what nobody owns and isn't merged yet
untier : (h : Heap) (c : ℕ) → IsSound h → FIRST_MORTAL ≤ c → (cell_at h c).owner ≡ owners.Nobody
    → is_merged (cell_at h c).state ≡ false → gripped h c ≡ 1
untier h c sound mortal owner unmerged =
    sound.gripped c mortal ∙ ap (λ o. grips_by_owner o (cell_at h c).state (cell_at h c).local (cell_at h c).count)
    owner ∙ ap (λ b. if b then one (is_zero (cell_at h c).count) else 1) unmerged

-- and it is a hand that has let it go and not yet added its counts
Unties : Heap → ℕ → ℕ → Phase → Type 0
Unties h u c p = ((row_at h u).hand ≡ hands.Busy p c)
    × ((p ≡ phases.Untied) ⊎ ((p ≡ phases.Taking) ⊎ ((p ≡ phases.Popping) ⊎ (p ≡ phases.Yielding))))

untying_phase : (h : Heap) (u c : ℕ) (p : Phase) → (cell_at h c).owner ≡ owners.Nobody → is_gripping p ≡ true
    → HandFits h u p c → (p ≡ phases.Untied) ⊎ ((p ≡ phases.Taking) ⊎ ((p ≡ phases.Popping) ⊎ (p ≡ phases.Yielding)))
untying_phase h u c phases.Untied owner grip fits = inl refl
untying_phase h u c phases.Taking owner grip fits = inr (inl refl)
untying_phase h u c phases.Popping owner grip fits = inr (inr (inl refl))
untying_phase h u c phases.Yielding owner grip fits = inr (inr (inr refl))
untying_phase h u c phases.Claimed owner grip fits = absurd (let e : owners.Nobody ≡ owners.Claimed u = sym owner
    ∙ fits.fits.claimed in cc)
untying_phase h u c phases.Counted owner grip fits = absurd (let e : owners.Nobody ≡ owners.Claimed u = sym owner
    ∙ fits.fits.0.claimed in cc)
untying_phase h u c phases.Ready owner grip fits = absurd (let e : owners.Nobody ≡ owners.Claimed u = sym owner
    ∙ fits.fits.0.claimed in cc)
untying_phase h u c phases.Zero owner grip fits = absurd (let e : owners.Nobody ≡ owners.Thread u = sym owner
    ∙ fits.fits in cc)
untying_phase h u c phases.Over owner grip fits = absurd (let e : owners.Nobody ≡ owners.Thread u = sym owner
    ∙ fits.fits in cc)
untying_phase h u c _ owner grip fits = absurd (true≢false (sym grip))

who_unties : (h : Heap) (c : ℕ) → IsSound h → FIRST_MORTAL ≤ c → (cell_at h c).owner ≡ owners.Nobody
    → is_merged (cell_at h c).state ≡ false → 1 ≤ held h c → (u : ℕ) × (p : Phase) × Unties h u c p
unfolding Unties
who_unties h c sound mortal owner unmerged some =
    let grip : gripped h c ≡ 1 = untier h c sound mortal owner unmerged in
    let marks : sum_by (λ (marks : List Bool). one (is_marked marks c)) h.worklists ≡ 0 =
    sum_none (λ (marks : List Bool). one (is_marked marks c)) h.worklists [] (λ s. held_unmarked h s c sound some) in
    let found : (t : ℕ) × (1 ≤ one (grips c (row_at h t).hand)) = sum_some (λ (row : Row). one (grips c row.hand))
    h.rows no_row (omega (arith, grip, marks)) in
    let hand : (p : Phase) × ((row_at h found.0).hand ≡ hands.Busy p c) × (is_gripping p ≡ true) =
    gripping_hand c _ (from_one _ found.1) in
    (found.0, hand.0, (hand.1, untying_phase h found.0 c hand.0 owner hand.2 (sound.hands found.0 c hand.0 hand.1)))

-- an object whose bearer has closed its word, and which nobody owns, is merged
shut_tells : (h : Heap) (t c : ℕ) → IsSound h → (row_at h t).hand ≡ hands.Busy phases.Shut c
    → PhaseTells t phases.Shut (cell_at h c)
unfolding Unties
shut_tells h t c sound busy =
    let said : HandFits h t phases.Shut c = sound.hands t c phases.Shut busy in
    let carried : one (carries c (row_at h t).hand) ≡ 1 = busy_carrier phases.Shut c (row_at h t).hand refl busy in
    let some : 1 ≤ held h c = carried_held h t c carried in
    let live : lives (cell_at h c).owner ≡ true = held_owner h c sound said.mortal some in
    let asked : is_default (cell_at h c).state ≡ false = asked_for h c sound said.mortal (carried_asks h t c carried) in
    elim (cases_Bool (is_nobody (cell_at h c).owner)) [
      | inr owned ↦
          let thread : (s : ℕ) × ((cell_at h c).owner ≡ owners.Thread s) = live_thread (cell_at h c).owner live owned in
          inr (
            thread.0,
            thread.1,
            between (cell_at h c).state asked
                ((sound.cells c said.mortal).owned_unmerged thread.0 thread.1),
          )
      | inl nobody ↦
          inl (nobody_owner (cell_at h c).owner nobody, asked)
    ]

-- a hand that merges an asked object finds it queued
merging_tells : (h : Heap) (t c : ℕ) (p : Phase) → IsSound h → (row_at h t).hand ≡ hands.Busy p c → is_gripping p ≡ true
    → FIRST_MORTAL ≤ c → (cell_at h c).owner ≡ owners.Nobody → 1 ≤ held h c → 1 ≤ asks h c
    → (cell_at h c).state ≡ states.Queued
merging_tells h t c p sound busy gripping mortal owner some asked =
    between (cell_at h c).state (asked_for h c sound mortal asked)
    (gripped_unmerged h c sound mortal owner (hand_gripped h t c (hand_grips h t c p busy gripping)) some)

-- the owner of a merged object that lives is nobody
merged_nobody : (h : Heap) (c : ℕ) → IsSound h → FIRST_MORTAL ≤ c → lives (cell_at h c).owner ≡ true
    → (cell_at h c).state ≡ states.Merged → (cell_at h c).owner ≡ owners.Nobody
merged_nobody h c sound mortal live merged = by_owner (cell_at h c).owner live refl
  where
    by_owner : (o : Owner) → lives o ≡ true → (cell_at h c).owner ≡ o → o ≡ owners.Nobody
    by_owner owners.Nobody live is = refl
    by_owner (owners.Thread t) live is =
        absurd (true≢false (ap is_merged (sym merged) ∙ (sound.cells c mortal).owned_unmerged t is))
    by_owner (owners.Claimed t) live is = absurd (true≢false (sym live))
    by_owner owners.Free live is = absurd (true≢false (sym live))

zero_tells : (h : Heap) (t c : ℕ) (p : Phase) → IsSound h → (row_at h t).hand ≡ hands.Busy p c → is_gripping p ≡ true
    → FIRST_MORTAL ≤ c → (cell_at h c).owner ≡ owners.Thread t
    → ((cell_at h c).owner ≡ owners.Thread t) × ((cell_at h c).local ≡ 0) × (is_merged (cell_at h c).state ≡ false)
zero_tells h t c p sound busy gripping mortal owner = (
  owner,
  gripped_local h t c sound mortal owner (hand_gripped h t c (hand_grips h t c p busy gripping)),
  (sound.cells c mortal).owned_unmerged t owner,
)

sound_tells : (h : Heap) (t c : ℕ) (p : Phase) → IsSound h → (row_at h t).hand ≡ hands.Busy p c
    → PhaseTells t p (cell_at h c)
sound_tells h t c phases.Claimed sound busy = (sound.hands t c phases.Claimed busy).fits.claimed
sound_tells h t c phases.Counted sound busy = let fits = (sound.hands t c phases.Counted busy).fits in
    (fits.0.claimed, fits.1)
sound_tells h t c phases.Ready sound busy =
    let said : HandFits h t phases.Ready c = sound.hands t c phases.Ready busy in (
      said.fits.0.claimed,
      said.fits.1,
      (sound.cells c said.mortal).dead_count (ap lives said.fits.0.claimed),
      said.fits.2,
    )
sound_tells h t c phases.Zero sound busy = let said : HandFits h t phases.Zero c = sound.hands t c phases.Zero busy in
    zero_tells h t c phases.Zero sound busy refl said.mortal said.fits
sound_tells h t c phases.Over sound busy = let said : HandFits h t phases.Over c = sound.hands t c phases.Over busy in
    zero_tells h t c phases.Over sound busy refl said.mortal said.fits
sound_tells h t c phases.Untied sound busy = let fits : Untied t (cell_at h c) =
    (sound.hands t c phases.Untied busy).fits in (fits.owner, fits.local, fits.not_merged)
sound_tells h t c phases.Asked sound busy = asked_for h c sound (sound.hands t c phases.Asked busy).mortal
    (carried_asks h t c (busy_carrier phases.Asked c _ refl busy))
sound_tells h t c phases.Shut sound busy = shut_tells h t c sound busy
sound_tells h t c phases.Taking sound busy =
    let said : HandFits h t phases.Taking c = sound.hands t c phases.Taking busy in
    let carried : one (carries c (row_at h t).hand) ≡ 1 = busy_carrier phases.Taking c _ refl busy in (
      said.fits,
      merging_tells h t c phases.Taking sound busy refl said.mortal said.fits (carried_held h t c carried)
          (carried_asks h t c carried),
    )
sound_tells h t c phases.Held sound busy =
    let said : HandFits h t phases.Held c = sound.hands t c phases.Held busy in (
      merged_nobody h c sound said.mortal
          (held_owner h c sound said.mortal (carried_held h t c (busy_carrier phases.Held c _ refl busy))) said.fits,
      said.fits,
    )
sound_tells h t c phases.Offered sound busy = let fits : Offered t (cell_at h c) =
    (sound.hands t c phases.Offered busy).fits in (fits.owner, fits.local, fits.state)
sound_tells h t c phases.Yielding sound busy = let fits : Yielding t (cell_at h c) =
    (sound.hands t c phases.Yielding busy).fits in (fits.owner, fits.state)
sound_tells h t c phases.Popping sound busy =
    let said : HandFits h t phases.Popping c = sound.hands t c phases.Popping busy in (
      said.fits.0,
      merging_tells h t c phases.Popping sound busy refl said.mortal said.fits.0
          (popped_held h t c said.fits.1) (popped_asks h t c said.fits.1),
    )

-- what the phase of a hand says of its cell
pub hand_tells : (h : Heap) (t c : ℕ) (p : Phase) → IsReached h → (row_at h t).hand ≡ hands.Busy p c
    → (FIRST_MORTAL ≤ c) × PhaseTells t p (cell_at h c)
hand_tells h t c p reached busy = let sound : IsSound h = reached_sound h reached in
    ((sound.hands t c p busy).mortal, sound_tells h t c p sound busy)

-- a popped entry is merged, or the thread's own
sound_popped : (h : Heap) (t c : ℕ) → IsSound h → (row_at h t).hand ≡ hands.Free → bit_of (popped_at h t) c ≡ 1
    → PoppedTells t (cell_at h c)
unfolding Unties
sound_popped h t c sound free popped =
    let bit = sound.bits t c (omega (arith, popped)) in
    let some : 1 ≤ held h c = popped_held h t c popped in
    let live : lives (cell_at h c).owner ≡ true = held_owner h c sound bit.0 some in
    let asked : is_default (cell_at h c).state ≡ false = asked_for h c sound bit.0 (popped_asks h t c popped) in
    elim (cases_Bool (is_merged (cell_at h c).state)) [
      | inl merged ↦ inl (merged_state (cell_at h c).state merged)
      | inr unmerged ↦ inr (elim (cases_Bool (is_nobody (cell_at h c).owner)) [
        | inr owned ↦
            let thread : (s : ℕ) × ((cell_at h c).owner ≡ owners.Thread s) =
            live_thread (cell_at h c).owner live owned in (
              thread.1 ∙ ap owners.Thread (sym ((sound.cells c bit.0).owned_by_bearer thread.0 thread.1) ∙ bit.1),
              between (cell_at h c).state asked unmerged,
            )
        | inl nobody ↦
            let who : (u : ℕ) × (p : Phase) × Unties h u c p = who_unties h c sound bit.0
            (nobody_owner (cell_at h c).owner nobody) unmerged some in
            let his : (u : ℕ) → (p : Phase) → (row_at h u).hand ≡ hands.Busy p c → (cell_at h c).bearer ≡ u
            → ⊥ = λ u p at bearer.
            let bad : hands.Free ≡ hands.Busy p c = sym free ∙ ap (λ i. (row_at h i).hand) (sym bit.1 ∙ bearer)
            ∙ at in cc in
            absurd (elim who.2.1 [
              | inl untied ↦
                  let at : (row_at h who.0).hand ≡ hands.Busy phases.Untied c = who.2.0
                  ∙ ap (λ q. hands.Busy q c) untied in
                  let fits : Untied who.0 (cell_at h c) = (sound.hands who.0 c phases.Untied at).fits in
                  his who.0 phases.Untied at fits.bearer
              | inr more ↦ elim more [
                | inl taking ↦
                    let at : (row_at h who.0).hand ≡ hands.Busy phases.Taking c = who.2.0
                    ∙ ap (λ q. hands.Busy q c) taking in
                    carry_popped h who.0 t c sound bit.0 (busy_carrier phases.Taking c _ refl at) popped
                | inr rest ↦ elim rest [
                  | inl popping ↦
                      let at : (row_at h who.0).hand ≡ hands.Busy phases.Popping c = who.2.0
                      ∙ ap (λ q. hands.Busy q c) popping in
                      his who.0 phases.Popping at
                      (sound.bits who.0 c (omega (arith, (sound.hands who.0 c phases.Popping at).fits.1))).1
                  | inr yielding ↦
                      let at : (row_at h who.0).hand ≡ hands.Busy phases.Yielding c = who.2.0
                      ∙ ap (λ q. hands.Busy q c) yielding in
                      let fits : Yielding who.0 (cell_at h c) = (sound.hands who.0 c phases.Yielding at).fits in
                      his who.0 phases.Yielding at fits.bearer
                ]
              ]
            ])
      ])
    ]

pub popped_tells : (h : Heap) (t c : ℕ) → IsReached h → (row_at h t).hand ≡ hands.Free → bit_of (popped_at h t) c ≡ 1
    → PoppedTells t (cell_at h c)
popped_tells h t c reached free popped = sound_popped h t c (reached_sound h reached) free popped

-- ---- objects whose owner word, local word and asked state only one thread writes

-- what a step leaves
pub record Fixed (x y : Cell) : Type 0 where
  pub owner : y.owner ≡ x.owner
  pub local : y.local ≡ x.local
  pub queued : x.state ≡ states.Queued → y.state ≡ states.Queued

fixed_all : (x : Cell) → Fixed x x
fixed_all x = record { owner = refl; local = refl; queued = λ q. q }

-- the step's thread doesn't own the object, and may neither untie nor merge it, nor has it on its worklist
record Kept (h : Heap) (u c : ℕ) : Type 0 where
  mortal : FIRST_MORTAL ≤ c
  live : lives (cell_at h c).owner ≡ true
  owner : Mine u (row_at h u).stage (cell_at h c) → ⊥
  untie : May h u (Untie c) → ⊥
  zero : May h u (MergeZero c) → ⊥
  add : May h u (MergeAdd c) → ⊥
  unmarked : one (is_marked (worklist_at h u) c) ≡ 0

not_mine : (h : Heap) (u c : ℕ) → Kept h u c → (is_immortal c || is_mine u (row_at h u).stage (cell_at h c)) ≡ true → ⊥
not_mine h u c kept ok =
    kept.owner (mine u (row_at h u).stage (cell_at h c)
    (subst (λ b. (b || is_mine u (row_at h u).stage (cell_at h c)) ≡ true) (le-ltb c FIRST_MORTAL kept.mortal) ok))

fixed_step : (h : Heap) (u : ℕ) (s : Step) (c : ℕ) → IsSound h → May h u s → target_at h u s ≡ Some c → Kept h u c
    → Fixed (cell_at h c) (cell_after u s c (cell_at h c))
fixed_step h u (Claim d) c sound may named kept =
    let e : d ≡ c = cc in
    let free : (cell_at h d).owner ≡ owners.Free =
    free_owner _ (and_parts _ _ (on_cell h u (Claim d) d may.on_target).fits).1 in
    absurd (true≢false (sym kept.live ∙ ap (λ i. lives (cell_at h i).owner) (sym e) ∙ ap lives free))
fixed_step h u (InitLocal d) c sound may named kept =
    absurd (not_bearing h u c d phases.Claimed sound (inl refl) may.hand (cc) kept.live)
fixed_step h u (InitShared d) c sound may named kept =
    absurd (not_bearing h u c d phases.Counted sound (inr (inl refl)) may.hand (cc) kept.live)
fixed_step h u (Birth d kind k) c sound may named kept =
    absurd (not_bearing h u c d phases.Ready sound (inr (inr refl)) may.hand (cc) kept.live)
fixed_step h u (LocalUp source k) c sound may named kept =
    let at_cell : OnCell h u (LocalUp source k) c = on_cell h u (LocalUp source k) c
    (subst (λ o. target_ok h u (row_at h u) (LocalUp source k) o ≡ true) named may.on_target) in
    let parts = and_parts _ _ (subst (λ b. (b || counts_up_locally h.limit u (row_at h u).stage (cell_at h c)) ≡ true)
    (le-ltb c FIRST_MORTAL kept.mortal) at_cell.fits) in
    absurd (kept.owner (mine u (row_at h u).stage (cell_at h c) parts.0))
fixed_step h u (LocalDown drop) c sound may named kept =
    let at_cell : OnCell h u (LocalDown drop) c = on_cell h u (LocalDown drop) c
    (subst (λ o. target_ok h u (row_at h u) (LocalDown drop) o ≡ true) named may.on_target) in
    absurd (not_mine h u c kept at_cell.fits)
fixed_step h u (SeeZero d) c sound may named kept = fixed_all (cell_at h c)
fixed_step h u (Free d) c sound may named kept =
    let e : d ≡ c = cc in
    let on : is_marked (worklist_at h u) c ≡ true = subst (λ i. is_marked (worklist_at h u) i ≡ true) e
    (and_parts _ _ may.own).0 in
    absurd (omega (arith, one-true (is_marked (worklist_at h u) c) on, kept.unmarked))
fixed_step h u (Untie d) c sound may named kept = let e : d ≡ c = cc in
    absurd (kept.untie (subst (λ i. May h u (Untie i)) e may))
fixed_step h u (MergeZero d) c sound may named kept = let e : d ≡ c = cc in
    absurd (kept.zero (subst (λ i. May h u (MergeZero i)) e may))
fixed_step h u (SharedUp source k) c sound may named kept = record { owner = refl; local = refl; queued = λ q. q }
fixed_step h u (SharedDown drop) c sound may named kept = record { owner = refl; local = refl; queued = λ q. q }
fixed_step h u (Ask drop) c sound may named kept = asked (is_default (cell_at h c).state) refl
  where
    asked : (b : Bool) → is_default (cell_at h c).state ≡ b
        → Fixed (cell_at h c) (if b then record (cell_at h c) { state = states.Queued } else cell_at h c)
    asked true default = record { owner = refl; local = refl; queued = λ _. refl }
    asked false other = fixed_all (cell_at h c)
fixed_step h u (LastDown last) c sound may named kept = record { owner = refl; local = refl; queued = λ q. q }
fixed_step h u (Enqueue d) c sound may named kept = fixed_all (cell_at h c)
fixed_step h u (Drain k) c sound may named kept = fixed_all (cell_at h c)
fixed_step h u (MergeAdd d) c sound may named kept = let e : d ≡ c = cc in
    absurd (kept.add (subst (λ i. May h u (MergeAdd i)) e may))
fixed_step h u (Close k) c sound may named kept = fixed_all (cell_at h c)
fixed_step h u (Reopen k) c sound may named kept = fixed_all (cell_at h c)
fixed_step h u (Offer d) c sound may named kept = record { owner = refl; local = refl; queued = λ _. refl }
fixed_step h u (Nudge v k) c sound may named kept = fixed_all (cell_at h c)
fixed_step h u Wake c sound may named kept = fixed_all (cell_at h c)
fixed_step h u (Lock k) c sound may named kept = record { owner = refl; local = refl; queued = λ q. q }
fixed_step h u (Unlock change) c sound may named kept = record { owner = refl; local = refl; queued = λ q. q }
fixed_step h u (Register v) c sound may named kept = fixed_all (cell_at h c)
fixed_step h u (Gather v) c sound may named kept = fixed_all (cell_at h c)

fixed_event : (h : Heap) (e : Event) (c : ℕ) → IsSound h → enabled h e ≡ true → Kept h e.thread c
    → Fixed (cell_at h c) (cell_at (after h e) c)
fixed_event h e c sound ok kept = elim (event_cell h e c ok) [
  | inl same ↦ subst (λ y. Fixed (cell_at h c) y) (sym same) (fixed_all (cell_at h c))
  | inr at ↦ subst (λ y. Fixed (cell_at h c) y) (sym at.1)
      (fixed_step h e.thread e.step c sound at.0.may at.0.named kept)
]

one_owner : (h : Heap) (c : ℕ) {s t : ℕ} → (cell_at h c).owner ≡ owners.Thread s
    → (cell_at h c).owner ≡ owners.Thread t → s ≡ t
one_owner h c {s} {t} his mine = let e : owners.Thread s ≡ owners.Thread t = sym his ∙ mine in cc

-- who merges has made it nobody's
merges_nobodys : (h : Heap) (u c : ℕ) → IsSound h → (May h u (MergeZero c)) ⊎ (May h u (MergeAdd c))
    → (cell_at h c).owner ≡ owners.Nobody
merges_nobodys h u c sound ways = elim ways [
  | inl zero ↦ let fits : Untied u (cell_at h c) =
      (sound.hands u c phases.Untied (busy_hand phases.Untied c _ zero.hand)).fits in fits.owner
  | inr add ↦ elim (cases_Bool (is_at phases.Taking c (row_at h u).hand)) [
    | inl taking ↦ (sound.hands u c phases.Taking (busy_hand phases.Taking c _ taking)).fits
    | inr off ↦ elim (cases_Bool (is_at phases.Popping c (row_at h u).hand)) [
      | inl popping ↦ (sound.hands u c phases.Popping (busy_hand phases.Popping c _ popping)).fits.0
      | inr still ↦ let fits : Yielding u (cell_at h c) =
          (sound.hands u c phases.Yielding (busy_hand phases.Yielding c _ (third _ _ _ off still add.hand))).fits in
          fits.owner
    ]
  ]
]

-- an object of a thread's: no other has it on its worklist, and nobody merges it
owned_kept : (h : Heap) (t u c : ℕ) → IsSound h → FIRST_MORTAL ≤ c → (cell_at h c).owner ≡ owners.Thread t → u ≢ t
    → (May h u (Untie c) → ⊥) → Kept h u c
owned_kept h t u c sound mortal owner other untie = record {
  mortal = mortal;
  live = ap lives owner;
  owner = λ his. other (let e : owners.Thread u ≡ owners.Thread t = sym his.owner ∙ owner in cc);
  untie = untie;
  zero = λ may. let bad : owners.Thread t ≡ owners.Nobody = sym owner ∙ merges_nobodys h u c sound (inl may) in cc;
  add = λ may. let bad : owners.Thread t ≡ owners.Nobody = sym owner ∙ merges_nobodys h u c sound (inr may) in cc;
  unmarked = elim (cases_Bool (is_marked (worklist_at h u) c)) [
    | inr off ↦ ap one off
    | inl on ↦
        let fits : WorklistFits u c (cell_at h c) = sound.worklists u c on in
        absurd (elim fits.whose [
          | inl merged ↦ true≢false (ap is_merged (sym merged) ∙ (sound.cells c mortal).owned_unmerged t owner)
          | inr his ↦ other (let e : owners.Thread u ≡ owners.Thread t = sym his ∙ owner in cc)
        ])
  ];
}

-- an object that is held: nobody has it on a worklist; where its owner isn't active, nobody counts on its local word
idle_kept : (h : Heap) (s u c : ℕ) → IsSound h → FIRST_MORTAL ≤ c → (cell_at h c).owner ≡ owners.Thread s
    → is_active (row_at h s).stage ≡ false → 1 ≤ held h c → (May h u (Untie c) → ⊥) → Kept h u c
idle_kept h s u c sound mortal owner idle some untie = record {
  mortal = mortal;
  live = ap lives owner;
  owner = λ his.
      let same : u ≡ s = let e : owners.Thread u ≡ owners.Thread s = sym his.owner ∙ owner in cc in
      true≢false (sym (ap is_active his.active) ∙ ap (λ i. is_active (row_at h i).stage) same ∙ idle);
  untie = untie;
  zero = λ may. let bad : owners.Thread s ≡ owners.Nobody = sym owner ∙ merges_nobodys h u c sound (inl may) in cc;
  add = λ may. let bad : owners.Thread s ≡ owners.Nobody = sym owner ∙ merges_nobodys h u c sound (inr may) in cc;
  unmarked = held_unmarked h u c sound some;
}

pub owns_lasts : (t c local : ℕ) → Lasts t (λ h. IsOwning h t c local)
owns_lasts t c local h e reached ok others owns =
    let sound : IsSound h = reached_sound h reached in
    let own : SameOwn t h (after h e) = others_own h e t sound ok others in
    let fixed : Fixed (cell_at h c) (cell_at (after h e) c) = fixed_event h e c sound ok
    (owned_kept h t e.thread c sound owns.mortal owns.owner others.other
    (λ may. elim (untie_way h e.thread c sound may) [
      | at_end busy owner ↦ others.other (one_owner h c owner owns.owner)
      | handed_over busy owner ↦ others.other (one_owner h c owner owns.owner)
      | shut_out busy some first ↦
          let shut : is_closed (row_at h (cell_at h c).bearer).stage (c / 32) ≡ true =
          subst (λ d. ShutFits d (cell_at h c) (row_at h (cell_at h c).bearer).stage c) first
          (sound.hands e.thread c phases.Shut busy).fits in
          let closed : is_active (row_at h (cell_at h c).bearer).stage ≡ false = closed_idle _ (c / 32) shut in
          true≢false (sym owns.active
          ∙ ap (λ b. is_active (row_at h b).stage)
          (sym ((sound.cells c owns.mortal).owned_by_bearer t owns.owner)) ∙ closed)
      | from_queue free on owner ↦ others.other (one_owner h c owner owns.owner)
    ])) in
    record {
      active = ap (λ (row : Row). is_active row.stage) own.row ∙ owns.active;
      mortal = owns.mortal;
      owner = fixed.owner ∙ owns.owner;
      unmarked = ap (λ marks. is_marked marks c) own.worklist ∙ owns.unmarked;
      count = fixed.local ∙ owns.count;
    }

-- a hand that was shut out of what a thread still owns: in the first edition alone, and the word is closed
still_owned : (e : Edition) (x : Cell) (g : Stage) (c s : ℕ) → x.owner ≡ owners.Thread s → ShutFits e x g c
    → is_closed g (c / 32) ≡ true
still_owned editions.One x g c s owner fits = fits
still_owned editions.Two x g c s owner fits = let bad : owners.Thread s ≡ owners.Nobody = sym owner
    ∙ fits in absurd (cc)

-- what an absent owner's object is to the one thread that may adopt it
pub adopting_lasts : (t c s local : ℕ) → Lasts t (λ h. Adopts h t c s local)
adopting_lasts t c s local h e reached ok others adopts =
    let sound : IsSound h = reached_sound h reached in
    let own : SameOwn t h (after h e) = others_own h e t sound ok others in
    let said : HandFits h t phases.Shut c = sound.hands t c phases.Shut adopts.hand in
    let carried : one (carries c (row_at h t).hand) ≡ 1 = busy_carrier phases.Shut c _ refl adopts.hand in
    let shut : is_closed (row_at h (cell_at h c).bearer).stage (c / 32) ≡ true = still_owned h.edition (cell_at h c)
    (row_at h (cell_at h c).bearer).stage c s adopts.owner said.fits in
    let idle : is_active (row_at h s).stage ≡ false = subst (λ b. is_active (row_at h b).stage ≡ false)
    ((sound.cells c said.mortal).owned_by_bearer s adopts.owner) (closed_idle _ (c / 32) shut) in
    let no_untie : May h e.thread (Untie c) → ⊥ = λ may. elim (untie_way h e.thread c sound may) [
      | at_end busy owner ↦ true≢false (sym (active_now h e.thread c phases.Over sound busy refl)
          ∙ ap (λ i. is_active (row_at h i).stage) (one_owner h c owner adopts.owner) ∙ idle)
      | handed_over busy owner ↦ true≢false (sym (active_now h e.thread c phases.Offered sound busy refl)
          ∙ ap (λ i. is_active (row_at h i).stage) (one_owner h c owner adopts.owner) ∙ idle)
      | shut_out busy some first ↦ two_carry h t e.thread c sound said.mortal others.other carried
          (busy_carrier phases.Shut c _ refl busy)
      | from_queue free on owner ↦ carry_popped h t e.thread c sound said.mortal carried on
    ] in
    let fixed : Fixed (cell_at h c) (cell_at (after h e) c) = fixed_event h e c sound ok
    (idle_kept h s e.thread c sound said.mortal adopts.owner idle (carried_held h t c carried) no_untie) in
    record {
      hand = ap (λ (row : Row). row.hand) own.row ∙ adopts.hand;
      owner = fixed.owner ∙ adopts.owner;
      state = fixed.queued adopts.state;
      count = fixed.local ∙ adopts.count;
    }

-- an object without an owner that the thread merges
merging_kept : (h : Heap) (t u c : ℕ) (p : Phase) → IsSound h → FIRST_MORTAL ≤ c → (cell_at h c).owner ≡ owners.Nobody
    → u ≢ t → (row_at h t).hand ≡ hands.Busy p c → is_gripping p ≡ true → Kept h u c
merging_kept h t u c p sound mortal owner other busy gripping =
    let alone : Ungripped h c u = sole_grip h c t sound mortal (omega (arith, hand_grips h t c p busy gripping))
    u other in
    let grips_not : (q : Phase) → (row_at h u).hand ≡ hands.Busy q c → is_gripping q ≡ true
    → ⊥ = λ q at grip. omega (arith, alone.hand, hand_grips h u c q at grip) in
    record {
      mortal = mortal;
      live = ap lives owner;
      owner = λ his. let bad : owners.Nobody ≡ owners.Thread u = sym owner ∙ his.owner in cc;
      untie = λ may. elim (untie_way h u c sound may) [
        | at_end busy his ↦ let bad : owners.Nobody ≡ owners.Thread u = sym owner ∙ his in cc
        | handed_over busy his ↦ let bad : owners.Nobody ≡ owners.Thread u = sym owner ∙ his in cc
        | shut_out busy some first ↦ true≢false (sym (ap is_nobody owner) ∙ some)
        | from_queue free on his ↦ let bad : owners.Nobody ≡ owners.Thread u = sym owner ∙ his in cc
      ];
      zero = λ may. grips_not phases.Untied (busy_hand phases.Untied c _ may.hand) refl;
      add = λ may. elim (cases_Bool (is_at phases.Taking c (row_at h u).hand)) [
        | inl taking ↦ grips_not phases.Taking (busy_hand phases.Taking c _ taking) refl
        | inr off ↦ elim (cases_Bool (is_at phases.Popping c (row_at h u).hand)) [
          | inl popping ↦ grips_not phases.Popping (busy_hand phases.Popping c _ popping) refl
          | inr still ↦ grips_not phases.Yielding (busy_hand phases.Yielding c _ (third _ _ _ off still may.hand)) refl
        ]
      ];
      unmarked = alone.mark;
    }

gripping_merge : (p : Phase) → (p ≡ phases.Taking) ⊎ (p ≡ phases.Popping) → is_gripping p ≡ true
gripping_merge p which = elim which [ inl taking ↦ ap is_gripping taking | inr popping ↦ ap is_gripping popping ]

pub merging_lasts : (t c local : ℕ) (p : Phase) → Lasts t (λ h. StaysMerging h t c local p)
merging_lasts t c local p h e reached ok others merges =
    let sound : IsSound h = reached_sound h reached in
    let own : SameOwn t h (after h e) = others_own h e t sound ok others in
    let fixed : Fixed (cell_at h c) (cell_at (after h e) c) = fixed_event h e c sound ok
    (merging_kept h t e.thread c p sound (sound.hands t c p merges.hand).mortal merges.owner others.other merges.hand
    (gripping_merge p merges.phase)) in
    record {
      hand = ap (λ (row : Row). row.hand) own.row ∙ merges.hand;
      phase = merges.phase;
      owner = fixed.owner ∙ merges.owner;
      state = fixed.queued merges.state;
      count = fixed.local ∙ merges.count;
    }

pub yielding_lasts : (t c local : ℕ) → Lasts t (λ h. Yields h t c local)
yielding_lasts t c local h e reached ok others yields =
    let sound : IsSound h = reached_sound h reached in
    let own : SameOwn t h (after h e) = others_own h e t sound ok others in
    let fixed : Fixed (cell_at h c) (cell_at (after h e) c) = fixed_event h e c sound ok
    (merging_kept h t e.thread c phases.Yielding sound (sound.hands t c phases.Yielding yields.hand).mortal yields.owner
    others.other yields.hand refl) in
    record {
      hand = ap (λ (row : Row). row.hand) own.row ∙ yields.hand;
      owner = fixed.owner ∙ yields.owner;
      state = fixed.queued yields.state;
      count = fixed.local ∙ yields.count;
    }

pub popped_lasts : (t c local : ℕ) → Lasts t (λ h. PoppedOwn h t c local)
popped_lasts t c local h e reached ok others his =
    let sound : IsSound h = reached_sound h reached in
    let own : SameOwn t h (after h e) = others_own h e t sound ok others in
    let mortal : FIRST_MORTAL ≤ c = (sound.bits t c (omega (arith, his.popped))).0 in
    let fixed : Fixed (cell_at h c) (cell_at (after h e) c) = fixed_event h e c sound ok
    (owned_kept h t e.thread c sound mortal his.owner others.other
    (λ may. elim (untie_way h e.thread c sound may) [
      | at_end busy owner ↦ others.other (one_owner h c owner his.owner)
      | handed_over busy owner ↦ others.other (one_owner h c owner his.owner)
      | shut_out busy some first ↦ carry_popped h e.thread t c sound mortal (busy_carrier phases.Shut c _ refl busy)
          his.popped
      | from_queue free on owner ↦ others.other (one_owner h c owner his.owner)
    ])) in
    record {
      popped = ap (λ ws. bit_of ws c) own.popped ∙ his.popped;
      owner = fixed.owner ∙ his.owner;
      state = fixed.queued his.state;
      count = fixed.local ∙ his.count;
    }
