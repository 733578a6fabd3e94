-- Merging: the owner lets its object go, and the counts become one.
use Rattle.std.proofs.Common.{◌≡◌, ◌≢◌, ℕ, ◌+◌, ◌/◌, ◌<◌, ◌≤◌, ◌==◌, ◌&&◌, not, Bool, true, false, if◌then◌else◌, ℤ}
use Rattle.std.proofs.Common.{pos, ◌+ℤ◌, List, [], length, set, refl, sym, ◌∙◌, ap, subst, inl, inr, arith, sum_by}
use Rattle.std.proofs.lemmas.List.{get_or-set_same, get_or-set_other, length-set}
use Rattle.std.proofs.lemmas.Bool.{cases_eq, cases_Bool, eq-eqb, ne_eqb, true≢false, not-true, cases_lt}
use Rattle.std.proofs.lemmas.Int.{ints}
use Rattle.brc_words.specs.declared.limits.TheConstants.{FIRST_MORTAL}
use Rattle.brc_words.specs.declared.owner.Owner.{Owner}
use Rattle.brc_words.specs.declared.owner.Owner.TheVariants as owners
use Rattle.brc_words.specs.declared.state.State.TheVariants as states
use Rattle.law.specs.world.Phases.{is_gripping, is_active_phase}
use Rattle.law.specs.declared.world.cell.Cell.{Cell}
use Rattle.law.specs.declared.world.edition.Edition.{Edition}
use Rattle.law.specs.declared.world.edition.Edition.TheVariants as editions
use Rattle.law.specs.declared.world.event.Step.TheVariants.{Untie, MergeZero, MergeAdd, Offer}
use Rattle.law.specs.declared.world.row.Row.{Row}
use Rattle.law.specs.declared.world.row.Hand.{Hand}
use Rattle.law.specs.declared.world.row.Hand.TheVariants as hands
use Rattle.law.specs.declared.world.row.Phase.{Phase}
use Rattle.law.specs.declared.world.row.Phase.TheVariants as phases
use Rattle.law.specs.declared.world.row.Stage.{Stage}
use Rattle.law.specs.declared.world.row.Stage.TheVariants as stages
use Rattle.law.specs.world.Lists.{one, bit_of, is_marked}
use Rattle.law.specs.world.Heap.{Heap, cell_at, entries_at, row_at, frame_at, popped_at, worklist_at, no_row}
use Rattle.law.specs.world.Steps.{thread_may, stepped, is_at, is_active, is_default, is_queued, is_merged, is_zero}
use Rattle.law.specs.world.Steps.{is_closed, is_nobody, untied_hand, added_hand}
use Rattle.law.specs.world.Holding.{lives, carries, count_of_state}
use Rattle.law.specs.world.Sound.{IsSound, CellFits, PhaseFits, HandFits, Untied, counted_in, grips_of, grips_by_owner}
use Rattle.law.specs.world.Sound.{grips, is_active_hand, gripped, held, asks_least, Offered, Yielding, offering}
use Rattle.law.specs.world.Sound.{rests_at, ShutFits, is_threads}
use Rattle.law.proofs.world.Naming.{second, merged_state, Ungripped, dead_unheld, ungripped, sole_grip, grips_once}
use Rattle.law.proofs.world.Naming.{no_mark, one-le, one-false, busy_hand, busy_carrier, live_counts, zero_count}
use Rattle.law.proofs.world.Naming.{sum_one, no_bit, same_shut, gripped_unoffered, offers_none, third, fourth}
use Rattle.law.proofs.world.Naming.{thread_owner, free_hand, grips_free, carries_free, offers_free}
use Rattle.law.proofs.world.Birthing.{busy_else, busy_grips, one_and, active_from}
use Rattle.law.proofs.world.Counting.{owned_ungripped, total_unmerged, local_positive, sum_none, hand_apart}
use Rattle.law.proofs.world.Asking.{May, on_cell, may_parts, at_end, shut_out, handed_over, from_queue, untie_way}
use Rattle.law.proofs.world.Asking.{OnCell}
use Rattle.law.proofs.world.Changes.{same_entries}
use Rattle.law.proofs.world.Turning.{acts, Turn, turn_sound}

-- ---- what others' hands say of a cell that they don't grip

and_true : (b : Bool) → (b && true) ≡ b
and_true true = refl
and_true false = refl

pub no_gripping : (p : Phase) (c : ℕ) (hand : Hand) → one (grips c hand) ≡ 0 → hand ≡ hands.Busy p c
    → is_gripping p ≡ false
no_gripping p c hand none busy =
    one-false (is_gripping p)
    (ap one (sym (and_true (is_gripping p)) ∙ ap (λ b. is_gripping p && b) (sym (eq-eqb c c refl)))
    ∙ sym (ap (λ z. one (grips c z)) busy) ∙ none)

-- such a hand looks at nothing but whether the object is merged
pub ungripping_phase : (e : Edition) (s : ℕ) (row : Row) (popped : List ℕ) (x y : Cell) (g : Stage) (c : ℕ) (p : Phase)
    → is_gripping p ≡ false → (x.owner ≡ owners.Nobody → y.owner ≡ owners.Nobody) → (p ≡ phases.Offered → ⊥)
    → (x.state ≡ states.Merged → y.state ≡ states.Merged) → PhaseFits e s row popped x g c p
    → PhaseFits e s row popped y g c p
ungripping_phase e s row popped x y g c phases.Asked off nobody apart merged fits = tt
ungripping_phase e s row popped x y g c phases.Shut off nobody apart merged fits = same_shut e x y g c nobody fits
ungripping_phase e s row popped x y g c phases.Held off nobody apart merged fits = merged fits
ungripping_phase e s row popped x y g c phases.Offered off nobody apart merged fits = absurd (apart refl)
ungripping_phase e s row popped x y g c _ off nobody apart merged fits = absurd (true≢false off)

pub hands_kept : (h : Heap) (t c : ℕ) (y : Cell) → IsSound h → y.bearer ≡ (cell_at h c).bearer
    → ((cell_at h c).state ≡ states.Merged → y.state ≡ states.Merged)
    → ((cell_at h c).owner ≡ owners.Nobody → y.owner ≡ owners.Nobody)
    → ((s : ℕ) → s ≢ t → (row_at h s).hand ≡ hands.Busy phases.Offered c → ⊥)
    → ((s : ℕ) → s ≢ t → one (grips c (row_at h s).hand) ≡ 0)
    → (s : ℕ) (p : Phase) → s ≢ t → (row_at h s).hand ≡ hands.Busy p c
    → PhaseFits h.edition s (row_at h s) (popped_at h s) y (row_at h y.bearer).stage c p
hands_kept h t c y sound bearer merged nobody apart none s p ne busy =
    let fits : HandFits h s p c = sound.hands s c p busy in
    subst (λ b. PhaseFits h.edition s (row_at h s) (popped_at h s) y (row_at h b).stage c p) (sym bearer)
    (ungripping_phase h.edition s (row_at h s) (popped_at h s) (cell_at h c) y (row_at h (cell_at h c).bearer).stage c p
    (no_gripping p c (row_at h s).hand (none s ne) busy) nobody (λ is. apart s ne (busy ∙ ap (λ q. hands.Busy q c) is))
    merged fits.fits)

-- ---- what the thread's hand rests on

-- a hand that only active threads have
pub active_now : (h : Heap) (t c : ℕ) (p : Phase) → IsSound h → (row_at h t).hand ≡ hands.Busy p c
    → is_active_phase p ≡ true → is_active (row_at h t).stage ≡ true
active_now h t c p sound busy running = elim (cases_Bool (is_active (row_at h t).stage)) [
  | inl active ↦ active
  | inr off ↦ absurd (true≢false (sym running ∙ sym (ap is_active_hand busy) ∙ (sound.threads t).inactive_hand off))
]

pub never_idle : (h : Heap) (t : ℕ) (hand : Hand) → is_active (row_at h t).stage ≡ true
    → is_active (row_at h t).stage ≡ false → is_active_hand hand ≡ false
never_idle h t hand active off = absurd (true≢false (sym active ∙ off))

pub hand_grips : (h : Heap) (t c : ℕ) (p : Phase) → (row_at h t).hand ≡ hands.Busy p c → is_gripping p ≡ true
    → one (grips c (row_at h t).hand) ≡ 1
hand_grips h t c p busy gripping = ap (λ z. one (grips c z)) busy ∙ busy_grips p c gripping

pub hand_gripped : (h : Heap) (t c : ℕ) → one (grips c (row_at h t).hand) ≡ 1 → 1 ≤ gripped h c
hand_gripped h t c grip = omega (arith, grip, sum_one (λ (row : Row). one (grips c row.hand)) h.rows t no_row refl)

-- the owner's count of what somebody grips is 0
pub gripped_local : (h : Heap) (s c : ℕ) → IsSound h → FIRST_MORTAL ≤ c → (cell_at h c).owner ≡ owners.Thread s
    → 1 ≤ gripped h c → (cell_at h c).local ≡ 0
gripped_local h s c sound mortal owner all =
    let gone : one ((cell_at h c).local == 0) ≡ grips_of (cell_at h c) =
    sym (ap (λ o. grips_by_owner o (cell_at h c).state (cell_at h c).local (cell_at h c).count) owner) in
    elim (cases_eq (cell_at h c).local 0) [
      | inl zero ↦ zero
      | inr more ↦ absurd (omega (arith, all, gone, sound.gripped c mortal, ap one (ne_eqb (cell_at h c).local 0 more)))
    ]

-- what a hand has a reference to is held, and lives
pub carried_held : (h : Heap) (t c : ℕ) → one (carries c (row_at h t).hand) ≡ 1 → 1 ≤ held h c
carried_held h t c carried =
    omega (arith, carried, sum_one (λ (row : Row). one (carries c row.hand)) h.rows t no_row refl)

pub held_owner : (h : Heap) (c : ℕ) → IsSound h → FIRST_MORTAL ≤ c → 1 ≤ held h c → lives (cell_at h c).owner ≡ true
held_owner h c sound mortal some = elim (cases_Bool (lives (cell_at h c).owner)) [
  | inl live ↦ live
  | inr dead ↦ absurd (omega (arith, some, (dead_unheld h c sound mortal dead).sum))
]

pub popped_held : (h : Heap) (t c : ℕ) → bit_of (popped_at h t) c ≡ 1 → 1 ≤ held h c
popped_held h t c on = omega (arith, on, sum_one (λ (words : List ℕ). bit_of words c) h.popped t [] (no_bit c))

-- ---- untying

untied_cell : (threads limit : ℕ) (resting : ℕ → Bool) (x : Cell) (entries : List ℕ) → lives x.owner ≡ true
    → CellFits threads limit resting x entries
    → CellFits threads limit resting (record x { owner = owners.Nobody }) entries
untied_cell threads limit resting x entries live fits = record {
  default = fits.default;
  owned_unmerged = λ s e. let bad : owners.Nobody ≡ owners.Thread s = e in absurd (cc);
  owned_by_bearer = λ s e. let bad : owners.Nobody ≡ owners.Thread s = e in absurd (cc);
  rested = λ s e _. let bad : owners.Nobody ≡ owners.Thread s = e in absurd (cc);
  dead_empty = λ dead. absurd (true≢false dead);
  dead_count = λ dead. absurd (true≢false dead);
  born = λ _. fits.born live;
  limited = λ _. fits.limited live;
  plain = fits.plain;
  few = fits.few;
}

-- what is common to letting an object go
record Unties (h : Heap) (t c : ℕ) (hand : Hand) : Type 0 where
  may : May h t (Untie c)
  inside : c < length h.cells
  mortal : FIRST_MORTAL ≤ c
  live : lives (cell_at h c).owner ≡ true
  unmerged : is_merged (cell_at h c).state ≡ false
  unmarked : (s : ℕ) → one (is_marked (worklist_at h s) c) ≡ 0
  others : (s : ℕ) → s ≢ t → one (grips c (row_at h s).hand) ≡ 0
  unoffered : (s : ℕ) → s ≢ t → (row_at h s).hand ≡ hands.Busy phases.Offered c → ⊥
  carried : one (carries c hand) ≡ one (carries c (row_at h t).hand)
  grip : 1 + one (grips c (row_at h t).hand) ≡ grips_of (cell_at h c) + one (grips c hand)
  before : (p : Phase) (d : ℕ) → (row_at h t).hand ≡ hands.Busy p d → d ≡ c
  after : (p : Phase) (d : ℕ) → hand ≡ hands.Busy p d
      → (d ≡ c) × PhaseFits h.edition t (record (row_at h t) { hand = hand }) (popped_at h t)
      (record (cell_at h c) { owner = owners.Nobody }) (row_at h (cell_at h c).bearer).stage c p
  idle : is_active (row_at h t).stage ≡ false → is_active_hand hand ≡ false

-- the one phase that a hand has
pub busy_same : (p : Phase) (c : ℕ) (hand : Hand) → hand ≡ hands.Busy p c → (q : Phase) (d : ℕ) → hand ≡ hands.Busy q d
    → (d ≡ c) × (q ≡ p)
busy_same p c hand is q d busy = let e : hands.Busy p c ≡ hands.Busy q d = sym is ∙ busy in (cc, cc)

-- a thread that isn't active grips nothing that has an owner
pub idle_apart : (h : Heap) (s c : ℕ) (hand : Hand) → IsSound h → is_active (row_at h s).stage ≡ false
    → (cell_at h c).owner ≡ owners.Thread s → (row_at h s).hand ≡ hand → one (grips c hand) ≡ 0
idle_apart h s c hands.Free sound off owner e = refl
idle_apart h s c (hands.Busy p d) sound off owner e =
    elim (cases_eq d c) [
      | inr other ↦ (busy_else p d c (λ e. other (sym e))).0
      | inl same ↦
          let busy : (row_at h s).hand ≡ hands.Busy p c = e ∙ ap (hands.Busy p) same in
          let idle : is_active_phase p ≡ false = sym (ap is_active_hand busy) ∙ (sound.threads s).inactive_hand off in
          ap (λ b. one (b && (d == c))) (by_phase p idle (sound.hands s c p busy).fits)
    ]
  where
    by_phase : (p : Phase) → is_active_phase p ≡ false → PhaseFits h.edition s (row_at h s) (popped_at h s)
        (cell_at h c) (row_at h (cell_at h c).bearer).stage c p → is_gripping p ≡ false
    by_phase phases.Asked idle fits = refl
    by_phase phases.Shut idle fits = refl
    by_phase phases.Taking idle fits = let bad : owners.Thread s ≡ owners.Nobody = sym owner ∙ fits in absurd (cc)
    by_phase phases.Held idle fits = refl
    by_phase phases.Popping idle fits = let bad : owners.Thread s ≡ owners.Nobody = sym owner ∙ fits.0 in absurd (cc)
    by_phase _ idle fits = absurd (true≢false idle)

pub closed_idle : (g : Stage) (k : ℕ) → is_closed g k ≡ true → is_active g ≡ false
closed_idle stages.Active k closed = absurd (true≢false (sym closed))
closed_idle (stages.Closing n) k closed = refl
closed_idle stages.Left k closed = refl
closed_idle (stages.Opening n) k closed = refl

pub live_thread : (owner : Owner) → lives owner ≡ true → is_nobody owner ≡ false → (s : ℕ) × (owner ≡ owners.Thread s)
live_thread owners.Nobody live some = absurd (true≢false some)
live_thread (owners.Thread s) live some = (s, refl)
live_thread (owners.Claimed s) live some = absurd (true≢false (sym live))
live_thread owners.Free live some = absurd (true≢false (sym live))

module _ (h : Heap) (t c : ℕ) (sound : IsSound h) where
  -- the object, when it has been let go
  abbrev let_go : Cell
  let_go = record (cell_at h c) { owner = owners.Nobody }

  unties_turn : (hand : Hand) → Unties h t c hand → Turn h t c let_go hand (frame_at h t) (worklist_at h t) h.entries
  unties_turn hand u =
      let grip : grips_of let_go ≡ 1 = ap (λ b. if b then one (is_zero (cell_at h c).count) else 1) u.unmerged in
      let asked : asks_least let_go ≡ 0 = one_and (is_queued (cell_at h c).state) false refl in
      record {
        acts = acts h t (Untie c) u.may refl refl refl;
        cell_inside = u.inside;
        mortal = u.mortal;
        mutex = refl;
        bearer = refl;
        live = sym u.live;
        vacant = λ j none. none;
        places = (sound.threads t).places;
        marks = refl;
        lists = refl;
        counted_here = omega (arith, ints, live_counts (cell_at h c) u.live, u.carried);
        part_else = λ q _. refl;
        gripped_here = omega (arith, grip, u.grip);
        most_here = omega (arith, sound.most c u.mortal, u.carried);
        least_here = omega (
          arith,
          asked,
          u.carried,
          sum_one (λ (row : Row). one (offering c row.hand)) h.rows t
              no_row refl,
        );
        before = u.before;
        after = u.after;
        idle = u.idle;
        hands_else = hands_kept h t c let_go sound refl (λ e. e) (λ _. refl) u.unoffered u.others;
        cell = untied_cell _ _ _ (cell_at h c) (entries_at h c) u.live (sound.cells c u.mortal);
        fewer = λ q _. same_entries _;
        works_here = λ on. absurd (no_mark _ (u.unmarked t) on);
        marks_else = λ q _. refl;
        works_else = λ s _ on. absurd (no_mark _ (u.unmarked s) on);
      }

  -- what a hand in the one phase says of it in the other
  abbrev Says : Phase → Phase → Type 0
  Says p q = PhaseFits h.edition t (record (row_at h t) { hand = hands.Busy p c }) (popped_at h t) let_go
      (row_at h (cell_at h c).bearer).stage c q

  says : (p : Phase) → Says p p → (q : Phase) (d : ℕ) → hands.Busy p c ≡ hands.Busy q d → (d ≡ c) × Says p q
  says p fits q d e = let same = busy_same p c (hands.Busy p c) refl q d e in (same.0, subst (Says p) (sym same.1) fits)

  module _ (may : May h t (Untie c)) (inside : c < length h.cells) where
    -- at count 0: the thread goes on to merge
    untie_over : (row_at h t).hand ≡ hands.Busy phases.Over c → Unties h t c (hands.Busy phases.Untied c)
    untie_over busy =
        let said : HandFits h t phases.Over c = sound.hands t c phases.Over busy in
        let owner : (cell_at h c).owner ≡ owners.Thread t = said.fits in
        let grip : one (grips c (row_at h t).hand) ≡ 1 = hand_grips h t c phases.Over busy refl in
        let local : (cell_at h c).local ≡ 0 = gripped_local h t c sound said.mortal owner (hand_gripped h t c grip) in
        let alone : (s : ℕ) → s ≢ t → Ungripped h c s = sole_grip h c t sound said.mortal (omega (arith, grip)) in
        let unmerged : is_merged (cell_at h c).state ≡ false = (sound.cells c said.mortal).owned_unmerged t owner in
        record {
          may = may;
          inside = inside;
          mortal = said.mortal;
          live = ap lives owner;
          unmerged = unmerged;
          unmarked = λ s. elim (cases_eq s t) [
            | inl same ↦ ap (λ j. one (is_marked (worklist_at h j) c)) same
                ∙ omega (arith, grips_once h c t sound said.mortal, grip)
            | inr other ↦ (alone s other).mark
          ];
          others = λ s ne. (alone s ne).hand;
          unoffered = λ s _ offer. gripped_unoffered h s c sound said.mortal (hand_gripped h t c grip)
              (sound.hands s c phases.Offered offer).fits;
          carried = sym (ap (λ z. one (carries c z)) busy);
          grip = omega (
            arith,
            grip,
            busy_grips phases.Untied c refl,
            ap (λ o. grips_by_owner o (cell_at h c).state (cell_at h c).local (cell_at h c).count) owner,
            ap one (eq-eqb (cell_at h c).local 0 local),
          );
          before = λ p d e. (busy_same phases.Over c (row_at h t).hand busy p d e).0;
          after = says phases.Untied
              (record {
                owner = refl;
                local = local;
                not_merged = unmerged;
                bearer = (sound.cells c said.mortal).owned_by_bearer t owner;
              });
          idle = never_idle h t (hands.Busy phases.Untied c) (active_now h t c phases.Over sound busy refl);
        }

    -- an object that nobody grips, by whoever grips it then
    untie_ungripped : (p : Phase) → FIRST_MORTAL ≤ c → lives (cell_at h c).owner ≡ true
        → is_merged (cell_at h c).state ≡ false → gripped h c ≡ 0 → is_gripping p ≡ true
        → (is_active (row_at h t).stage ≡ false → is_active_phase p ≡ false)
        → ((s : ℕ) → s ≢ t → (row_at h s).hand ≡ hands.Busy phases.Offered c → ⊥)
        → one (carries c (hands.Busy p c)) ≡ one (carries c (row_at h t).hand)
        → ((q : Phase) (d : ℕ) → (row_at h t).hand ≡ hands.Busy q d → d ≡ c) → Says p p → Unties h t c (hands.Busy p c)
    untie_ungripped p mortal live unmerged none gripping idle unoffered carried before fits =
        let alone : (s : ℕ) → Ungripped h c s = ungripped h c none in
        record {
          may = may;
          inside = inside;
          mortal = mortal;
          live = live;
          unmerged = unmerged;
          unmarked = λ s. (alone s).mark;
          others = λ s _. (alone s).hand;
          unoffered = unoffered;
          carried = carried;
          grip = omega (arith, (alone t).hand, busy_grips p c gripping, sound.gripped c mortal, none);
          before = before;
          after = says p fits;
          idle = idle;
        }

    -- an object whose owner has left is adopted: its merge queue was closed to the thread that asked
    untie_shut : (row_at h t).hand ≡ hands.Busy phases.Shut c → is_nobody (cell_at h c).owner ≡ false
        → h.edition ≡ editions.One → Unties h t c (hands.Busy phases.Taking c)
    untie_shut busy some first =
        let said : HandFits h t phases.Shut c = sound.hands t c phases.Shut busy in
        let carried : one (carries c (row_at h t).hand) ≡ 1 = busy_carrier phases.Shut c (row_at h t).hand refl busy in
        let live : lives (cell_at h c).owner ≡ true = held_owner h c sound said.mortal (carried_held h t c carried) in
        let owned : (s : ℕ) × ((cell_at h c).owner ≡ owners.Thread s) = live_thread (cell_at h c).owner live some in
        let bearer : (cell_at h c).bearer ≡ owned.0 = (sound.cells c said.mortal).owned_by_bearer owned.0 owned.1 in
        let off : is_active (row_at h owned.0).stage ≡ false = subst (λ b. is_active (row_at h b).stage ≡ false) bearer
        (closed_idle _ (c / 32) (subst (λ e. ShutFits e (cell_at h c) (row_at h (cell_at h c).bearer).stage c) first
        said.fits)) in
        let none : gripped h c ≡ 0 = owned_ungripped h owned.0 c sound said.mortal owned.1 (carried_held h t c carried)
        (idle_apart h owned.0 c (row_at h owned.0).hand sound off owned.1 refl) in
        untie_ungripped phases.Taking said.mortal live ((sound.cells c said.mortal).owned_unmerged owned.0 owned.1) none
        refl (λ _. refl)
        (λ s _ offer.
        let said : Offered s (cell_at h c) = (sound.hands s c phases.Offered offer).fits in
        let e : owners.Thread owned.0 ≡ owners.Thread s = sym owned.1 ∙ said.owner in
        let same : owned.0 ≡ s = cc in
        true≢false (sym (ap is_active_hand offer)
        ∙ (sound.threads s).inactive_hand (subst (λ j. is_active (row_at h j).stage ≡ false) same off)))
        (ap one (eq-eqb c c refl) ∙ sym carried)
        (λ p d e. (busy_same phases.Shut c (row_at h t).hand busy p d e).0) refl

    -- the owner deals with a popped entry
    untie_popped : (row_at h t).hand ≡ hands.Free → bit_of (popped_at h t) c ≡ 1 → (cell_at h c).owner ≡ owners.Thread t
        → Unties h t c (hands.Busy phases.Popping c)
    untie_popped free on owner =
        let mortal : FIRST_MORTAL ≤ c = (sound.bits t c (omega (arith, on))).0 in
        let none : gripped h c ≡ 0 = owned_ungripped h t c sound mortal owner (popped_held h t c on)
        (ap (λ z. one (grips c z)) free) in
        untie_ungripped phases.Popping mortal (ap lives owner) ((sound.cells c mortal).owned_unmerged t owner) none refl
        (λ _. refl)
        (λ s ne offer. let said : Offered s (cell_at h c) = (sound.hands s c phases.Offered offer).fits in
        let e : owners.Thread t ≡ owners.Thread s = sym owner ∙ said.owner in ne (cc))
        (sym (ap (λ z. one (carries c z)) free)) (λ p d e. let bad : hands.Free ≡ hands.Busy p d = sym free
        ∙ e in absurd (cc)) (refl, on)

    -- the owner hands its object over
    untie_offered : (row_at h t).hand ≡ hands.Busy phases.Offered c → (cell_at h c).owner ≡ owners.Thread t
        → Unties h t c (hands.Busy phases.Yielding c)
    untie_offered busy owner =
        let said : HandFits h t phases.Offered c = sound.hands t c phases.Offered busy in
        let offer : Offered t (cell_at h c) = said.fits in
        let none : gripped h c ≡ 0 = sound.gripped c said.mortal
        ∙ ap (λ o. grips_by_owner o (cell_at h c).state (cell_at h c).local (cell_at h c).count) owner
        ∙ ap one (ne_eqb (cell_at h c).local 0 (λ e. omega (arith, e, offer.local))) in
        untie_ungripped phases.Yielding said.mortal (ap lives owner)
        ((sound.cells c said.mortal).owned_unmerged t owner) none refl
        (λ off. absurd (true≢false (sym (active_now h t c phases.Offered sound busy refl) ∙ off)))
        (λ s ne other. let theirs : Offered s (cell_at h c) = (sound.hands s c phases.Offered other).fits in
        let e : owners.Thread t ≡ owners.Thread s = sym owner ∙ theirs.owner in ne (cc))
        (sym (ap (λ z. one (carries c z)) busy)) (λ p d e. (busy_same phases.Offered c (row_at h t).hand busy p d e).0)
        (record { owner = refl; state = offer.state; bearer = (sound.cells c said.mortal).owned_by_bearer t owner })

  -- ---- the step

  pub untie_sound : thread_may h t (Untie c) ≡ true → IsSound (stepped h t (Untie c) c)
  untie_sound ok =
      let may : May h t (Untie c) = may_parts h t (Untie c) ok in
      let inside : c < length h.cells = (on_cell h t (Untie c) c may.on_target).inside in
      let P : Hand → Type 0 = λ hand. IsSound (record h {
        cells = set h.cells c let_go;
        rows = set h.rows t (record (row_at h t) { hand = hand });
        frames = set h.frames t (frame_at h t);
        popped = set h.popped t (popped_at h t);
        worklists = set h.worklists t (worklist_at h t);
      }) in
      let done : (old new : Hand) → (row_at h t).hand ≡ old → untied_hand c old ≡ new → Unties h t c new
      → P (untied_hand c (row_at h t).hand) = λ old new is goes u.
      subst P (sym (ap (untied_hand c) is ∙ goes))
      (turn_sound h t c let_go new (frame_at h t) (worklist_at h t) h.entries sound (unties_turn new u)) in
      elim (untie_way h t c sound may) [
        | at_end busy owner ↦ done (hands.Busy phases.Over c) (hands.Busy phases.Untied c) busy refl
            (untie_over may inside busy)
        | shut_out busy some first ↦ done (hands.Busy phases.Shut c) (hands.Busy phases.Taking c) busy refl
            (untie_shut may inside busy some first)
        | handed_over busy owner ↦ done (hands.Busy phases.Offered c) (hands.Busy phases.Yielding c) busy refl
            (untie_offered may inside busy owner)
        | from_queue free on owner ↦ done hands.Free (hands.Busy phases.Popping c) free refl
            (untie_popped may inside free on owner)
      ]

-- ---- merging at local count 0

-- what the words of an object without an owner count, before and after it is merged
merged_counts : (x : Cell) (n : ℤ) → lives x.owner ≡ true
    → counted_in (record x { count = n; state = states.Merged }) ≡ n
merged_counts x n live = live_counts (record x { count = n; state = states.Merged }) live

unmerged_counts : (x : Cell) → lives x.owner ≡ true → is_merged x.state ≡ false → counted_in x ≡ pos x.local +ℤ x.count
unmerged_counts x live unmerged = live_counts x live ∙ total_unmerged x.state x.local x.count unmerged

merged_cell : (threads limit : ℕ) (resting : ℕ → Bool) (x : Cell) (n : ℤ) (entries : List ℕ) → x.owner ≡ owners.Nobody
    → CellFits threads limit resting x entries
    → CellFits threads limit resting (record x { count = n; state = states.Merged }) entries
merged_cell threads limit resting x n entries owner fits = record {
  default = λ e. let bad : states.Merged ≡ states.Default = e in absurd (cc);
  owned_unmerged = λ s e. let bad : owners.Nobody ≡ owners.Thread s = sym owner ∙ e in absurd (cc);
  owned_by_bearer = fits.owned_by_bearer;
  rested = fits.rested;
  dead_empty = fits.dead_empty;
  dead_count = λ dead. absurd (true≢false (sym (ap lives owner) ∙ dead));
  born = fits.born;
  limited = fits.limited;
  plain = fits.plain;
  few = fits.few;
}

merged_grips : (x : Cell) (n : ℤ) → x.owner ≡ owners.Nobody → grips_of (record x { count = n; state = states.Merged })
    ≡ one (is_zero n)
merged_grips x n owner = ap (λ o. grips_by_owner o states.Merged x.local n) owner

nobodys_grips : (x : Cell) → x.owner ≡ owners.Nobody → is_merged x.state ≡ false → grips_of x ≡ 1
nobodys_grips x owner unmerged = ap (λ o. grips_by_owner o x.state x.local x.count) owner
    ∙ ap (λ b. if b then one (is_zero x.count) else 1) unmerged

-- the worklist's marks, where the block is taken or isn't
pub taken_marks : (worklist : List Bool) (c : ℕ) → c < length worklist → one (is_marked worklist c) ≡ 0 → (b : Bool)
    → (one (is_marked (if b then set worklist c true else worklist) c) ≡ one b)
    × (length (if b then set worklist c true else worklist) ≡ length worklist)
    × ((q : ℕ) → q ≢ c → is_marked (if b then set worklist c true else worklist) q ≡ is_marked worklist q)
taken_marks worklist c within mark true = (
  ap one (get_or-set_same worklist c true false within),
  length-set worklist c true,
  λ q ne. get_or-set_other worklist c q true false ne,
)
taken_marks worklist c within mark false = (mark, refl, λ q _. refl)

-- a block on the list was taken
pub marked_so : (b : Bool) (m : ℕ) → m ≡ 1 → m ≡ one b → b ≡ true
marked_so true m e f = refl
marked_so false m e f = absurd (omega (arith, e, f))

zero_turn : (h : Heap) (t c : ℕ) (b : Bool) → IsSound h → thread_may h t (MergeZero c) ≡ true
    → is_zero (cell_at h c).count ≡ b
    → Turn h t c (record (cell_at h c) { state = states.Merged }) hands.Free (frame_at h t)
    (if b then set (worklist_at h t) c true else worklist_at h t) h.entries
zero_turn h t c b sound ok zero =
    let may : May h t (MergeZero c) = may_parts h t (MergeZero c) ok in
    let x : Cell = cell_at h c in
    let inside : c < length h.cells = (on_cell h t (MergeZero c) c may.on_target).inside in
    let busy : (row_at h t).hand ≡ hands.Busy phases.Untied c = busy_hand phases.Untied c _ may.hand in
    let said : HandFits h t phases.Untied c = sound.hands t c phases.Untied busy in
    let untied : Untied t x = said.fits in
    let live : lives x.owner ≡ true = ap lives untied.owner in
    let grip : one (grips c (row_at h t).hand) ≡ 1 = hand_grips h t c phases.Untied busy refl in
    let mark : one (is_marked (worklist_at h t) c) ≡ 0 = omega (arith, grips_once h c t sound said.mortal, grip) in
    let alone : (s : ℕ) → s ≢ t → Ungripped h c s = sole_grip h c t sound said.mortal (omega (arith, grip)) in
    let no_carry : one (carries c (row_at h t).hand) ≡ 0 = ap (λ z. one (carries c z)) busy in
    let within : c < length (worklist_at h t) = omega (
      arith,
      sound.shaped.marks t may.some_thread may.inside,
      inside,
    ) in
    let marks : (b : Bool) → (one (is_marked (if b then set (worklist_at h t) c true else worklist_at h t) c) ≡ one b)
    × (length (if b then set (worklist_at h t) c true else worklist_at h t) ≡ length (worklist_at h t))
    × ((q : ℕ) → q ≢ c → is_marked (if b then set (worklist_at h t) c true else worklist_at h t) q ≡ is_marked
    (worklist_at h t) q) = taken_marks (worklist_at h t) c within mark in
    record {
      acts = acts h t (MergeZero c) may refl refl refl;
      cell_inside = inside;
      mortal = said.mortal;
      mutex = refl;
      bearer = refl;
      live = refl;
      vacant = λ j none. none;
      places = (sound.threads t).places;
      marks = (marks b).1;
      lists = refl;
      counted_here = omega (
        arith,
        ints,
        merged_counts x x.count live,
        unmerged_counts x live untied.not_merged,
        untied.local,
        no_carry,
      );
      part_else = λ q _. refl;
      gripped_here = omega (
        arith,
        merged_grips x x.count untied.owner,
        nobodys_grips x untied.owner untied.not_merged,
        mark,
        grip,
        (marks b).0,
        ap one zero,
      );
      most_here = omega (arith, sound.most c said.mortal, one-le (not (is_default x.state)), no_carry);
      least_here = omega (arith, no_carry, offers_none phases.Untied c c _ refl busy);
      before = λ p d e. (busy_same phases.Untied c (row_at h t).hand busy p d e).0;
      after = λ p d e. let bad : hands.Free ≡ hands.Busy p d = e in absurd (cc);
      idle = λ _. refl;
      hands_else = hands_kept h t c (record x { state = states.Merged }) sound refl (λ _. refl) (λ e. e)
          (λ s _ offer. gripped_unoffered h s c sound said.mortal (hand_gripped h t c grip)
          (sound.hands s c phases.Offered offer).fits) (λ s ne. (alone s ne).hand);
      cell = merged_cell _ _ _ x x.count (entries_at h c) untied.owner (sound.cells c said.mortal);
      fewer = λ q _. same_entries _;
      works_here = λ on. record {
        mortal = said.mortal;
        lives = live;
        total = zero_count x.count (zero ∙ marked_so b _ (ap one on) ((marks b).0));
        whose = inl refl;
      };
      marks_else = (marks b).2;
      works_else = λ s ne on. absurd (no_mark _ (alone s ne).mark on);
    }

pub merge_zero_sound : (h : Heap) (t c : ℕ) → IsSound h → thread_may h t (MergeZero c) ≡ true
    → IsSound (stepped h t (MergeZero c) c)
merge_zero_sound h t c sound ok =
    turn_sound h t c (record (cell_at h c) { state = states.Merged }) hands.Free (frame_at h t) _ h.entries sound
    (zero_turn h t c (is_zero (cell_at h c).count) sound ok refl)

-- ---- adding the counts

pub nonzero : (n : ℤ) (m : ℕ) → n ≡ pos m → 1 ≤ m → is_zero n ≡ false
nonzero n m is some = ap is_zero is ∙ ne_eqb m 0 (λ e. omega (arith, e, some))

-- an object that is gripped and held has no owner, and isn't merged yet
pub gripped_unmerged : (h : Heap) (c : ℕ) → IsSound h → FIRST_MORTAL ≤ c → (cell_at h c).owner ≡ owners.Nobody
    → 1 ≤ gripped h c → 1 ≤ held h c → is_merged (cell_at h c).state ≡ false
gripped_unmerged h c sound mortal owner grip some =
    let x : Cell = cell_at h c in
    elim (cases_Bool (is_merged x.state)) [
      | inr off ↦ off
      | inl merged ↦
          let is : x.state ≡ states.Merged = merged_state x.state merged in
          let count : x.count ≡ pos (held h c) = sym (live_counts x (ap lives owner)
          ∙ ap (λ s. count_of_state s x.local x.count) is) ∙ sound.counted c mortal in
          let grips : grips_of x ≡ one (is_zero x.count) = ap (λ o. grips_by_owner o x.state x.local x.count) owner
          ∙ ap (λ b. if b then one (is_zero x.count) else 1) merged in
          absurd (omega (arith, grip, sound.gripped c mortal, grips, ap one (nonzero x.count (held h c) count some)))
    ]

add_turn : (h : Heap) (t c : ℕ) (old : Phase) (hand : Hand) (b : Bool) → IsSound h → thread_may h t (MergeAdd c) ≡ true
    → (row_at h t).hand ≡ hands.Busy old c → is_gripping old ≡ true
    → (cell_at h c).owner ≡ owners.Nobody → is_merged (cell_at h c).state ≡ false
    → is_zero ((cell_at h c).count +ℤ pos (cell_at h c).local) ≡ b
    → one (carries c hand) ≡ one (carries c (hands.Busy old c)) → one (grips c hand) ≡ 0
    → ((p : Phase) (d : ℕ) → hand ≡ hands.Busy p d → (d ≡ c) × (p ≡ phases.Held))
    → Turn h t c (record (cell_at h c) {
      count = (cell_at h c).count +ℤ pos (cell_at h c).local;
      state = states.Merged;
    }) hand (frame_at h t) (if b then set (worklist_at h t) c true else worklist_at h t) h.entries
add_turn h t c old hand b sound ok busy gripping owner unmerged zero carried let_go held_now =
    let may : May h t (MergeAdd c) = may_parts h t (MergeAdd c) ok in
    let x : Cell = cell_at h c in
    let n : ℤ = x.count +ℤ pos x.local in
    let said : HandFits h t old c = sound.hands t c old busy in
    let live : lives x.owner ≡ true = ap lives owner in
    let grip : one (grips c (row_at h t).hand) ≡ 1 = hand_grips h t c old busy gripping in
    let alone : (s : ℕ) → s ≢ t → Ungripped h c s = sole_grip h c t sound said.mortal (omega (arith, grip)) in
    let inside : c < length h.cells = (on_cell h t (MergeAdd c) c may.on_target).inside in
    let mark : one (is_marked (worklist_at h t) c) ≡ 0 = omega (arith, grips_once h c t sound said.mortal, grip) in
    let within : c < length (worklist_at h t) = omega (
      arith,
      sound.shaped.marks t may.some_thread may.inside,
      inside,
    ) in
    let marks : (one (is_marked (if b then set (worklist_at h t) c true else worklist_at h t) c) ≡ one b)
    × (length (if b then set (worklist_at h t) c true else worklist_at h t) ≡ length (worklist_at h t))
    × ((q : ℕ) → q ≢ c → is_marked (if b then set (worklist_at h t) c true else worklist_at h t) q ≡ is_marked
    (worklist_at h t) q) = taken_marks (worklist_at h t) c within mark b in
    let same : one (carries c hand) ≡ one (carries c (row_at h t).hand) = carried
    ∙ sym (ap (λ z. one (carries c z)) busy) in
    record {
      acts = acts h t (MergeAdd c) may refl refl refl;
      cell_inside = inside;
      mortal = said.mortal;
      mutex = refl;
      bearer = refl;
      live = refl;
      vacant = λ j none. none;
      places = (sound.threads t).places;
      marks = marks.1;
      lists = refl;
      counted_here = omega (arith, ints, merged_counts x n live, unmerged_counts x live unmerged, same);
      part_else = λ q _. refl;
      gripped_here = omega (
        arith,
        merged_grips x n owner,
        nobodys_grips x owner unmerged,
        mark,
        grip,
        let_go,
        marks.0,
        ap one zero,
      );
      most_here = omega (arith, sound.most c said.mortal, one-le (not (is_default x.state)), same);
      least_here = omega (arith, same, sum_one (λ (row : Row). one (offering c row.hand)) h.rows t no_row refl);
      before = λ p d e. (busy_same old c (row_at h t).hand busy p d e).0;
      after = λ p d e. let now = held_now p d e in (
        now.0,
        subst (λ z. PhaseFits h.edition t (record (row_at h t) { hand = hand }) (popped_at h t)
            (record x { count = n; state = states.Merged }) (row_at h x.bearer).stage c z) (sym now.1) refl,
      );
      idle = λ _. idle_hand hand held_now;
      hands_else = hands_kept h t c (record x { count = n; state = states.Merged }) sound refl (λ _. refl) (λ e. e)
          (λ s _ offer. gripped_unoffered h s c sound said.mortal (hand_gripped h t c grip)
          (sound.hands s c phases.Offered offer).fits) (λ s ne. (alone s ne).hand);
      cell = merged_cell _ _ _ x n (entries_at h c) owner (sound.cells c said.mortal);
      fewer = λ q _. same_entries _;
      works_here = λ on. record {
        mortal = said.mortal;
        lives = live;
        total = zero_count n (zero ∙ marked_so b _ (ap one on) (marks.0));
        whose = inl refl;
      };
      marks_else = marks.2;
      works_else = λ s ne on. absurd (no_mark _ (alone s ne).mark on);
    }
  where
    idle_hand : (hand : Hand) → ((p : Phase) (d : ℕ) → hand ≡ hands.Busy p d → (d ≡ c) × (p ≡ phases.Held))
        → is_active_hand hand ≡ false
    idle_hand hands.Free is = refl
    idle_hand (hands.Busy p d) is = ap is_active_phase (is p d refl).1

pub merge_add_sound : (h : Heap) (t c : ℕ) → IsSound h → thread_may h t (MergeAdd c) ≡ true
    → IsSound (stepped h t (MergeAdd c) c)
merge_add_sound h t c sound ok =
    let may : May h t (MergeAdd c) = may_parts h t (MergeAdd c) ok in
    let n : ℤ = (cell_at h c).count +ℤ pos (cell_at h c).local in
    let x : Cell = record (cell_at h c) { count = n; state = states.Merged } in
    let w : List Bool = if is_zero n then set (worklist_at h t) c true else worklist_at h t in
    let P : Hand → Type 0 = λ hand. IsSound (record h {
      cells = set h.cells c x;
      rows = set h.rows t (record (row_at h t) { hand = hand });
      frames = set h.frames t (frame_at h t);
      popped = set h.popped t (popped_at h t);
      worklists = set h.worklists t w;
    }) in
    let done : (old new : Hand) → (row_at h t).hand ≡ old → added_hand c old ≡ new
    → Turn h t c x new (frame_at h t) w h.entries → P (added_hand c (row_at h t).hand) = λ old new is goes turn.
    subst P (sym (ap (added_hand c) is ∙ goes)) (turn_sound h t c x new (frame_at h t) w h.entries sound turn) in
    elim (cases_Bool (is_at phases.Taking c (row_at h t).hand)) [
      | inl taking ↦
          let busy : (row_at h t).hand ≡ hands.Busy phases.Taking c = busy_hand phases.Taking c _ taking in
          let said : HandFits h t phases.Taking c = sound.hands t c phases.Taking busy in
          let carried : one (carries c (row_at h t).hand) ≡ 1 = busy_carrier phases.Taking c
          (row_at h t).hand refl busy in
          done (hands.Busy phases.Taking c) (hands.Busy phases.Held c) busy refl
          (add_turn h t c phases.Taking (hands.Busy phases.Held c) (is_zero n) sound ok busy refl said.fits
          (gripped_unmerged h c sound said.mortal said.fits
          (hand_gripped h t c (hand_grips h t c phases.Taking busy refl)) (carried_held h t c carried)) refl refl refl
          (busy_same phases.Held c (hands.Busy phases.Held c) refl))
      | inr off ↦ elim (cases_Bool (is_at phases.Popping c (row_at h t).hand)) [
        | inl popping ↦
            let busy : (row_at h t).hand ≡ hands.Busy phases.Popping c = busy_hand phases.Popping c _ popping in
            let said : HandFits h t phases.Popping c = sound.hands t c phases.Popping busy in
            done (hands.Busy phases.Popping c) hands.Free busy refl
            (add_turn h t c phases.Popping hands.Free (is_zero n) sound ok busy refl said.fits.0
            (gripped_unmerged h c sound said.mortal said.fits.0
            (hand_gripped h t c (hand_grips h t c phases.Popping busy refl)) (popped_held h t c said.fits.1))
            refl refl refl
            (λ p d e. let bad : hands.Free ≡ hands.Busy p d = e in absurd (cc)))
        | inr still ↦
            let busy : (row_at h t).hand ≡ hands.Busy phases.Yielding c = busy_hand phases.Yielding c _
            (third _ _ _ off still may.hand) in
            let said : HandFits h t phases.Yielding c = sound.hands t c phases.Yielding busy in
            let yields : Yielding t (cell_at h c) = said.fits in
            done (hands.Busy phases.Yielding c) hands.Free busy refl
            (add_turn h t c phases.Yielding hands.Free (is_zero n) sound ok busy refl yields.owner
            (ap is_merged yields.state) refl refl refl
            (λ p d e. let bad : hands.Free ≡ hands.Busy p d = e in absurd (cc)))
      ]
    ]

-- ---- handing over begins

-- a hand of another thread sees no difference between a state and queued in what a thread owns
owned_phase : (e : Edition) (s t : ℕ) (row : Row) (popped : List ℕ) (x : Cell) (g : Stage) (c : ℕ) (p : Phase) → s ≢ t
    → x.owner ≡ owners.Thread t → is_merged x.state ≡ false
    → PhaseFits e s row popped x g c p → PhaseFits e s row popped (record x { state = states.Queued }) g c p
owned_phase e s t row popped x g c phases.Claimed ne owner unmerged fits = let bad : owners.Thread t
    ≡ owners.Claimed s = sym owner ∙ fits.claimed in absurd (cc)
owned_phase e s t row popped x g c phases.Counted ne owner unmerged fits = let bad : owners.Thread t
    ≡ owners.Claimed s = sym owner ∙ fits.0.claimed in absurd (cc)
owned_phase e s t row popped x g c phases.Ready ne owner unmerged fits = let bad : owners.Thread t ≡ owners.Claimed s =
    sym owner ∙ fits.0.claimed in absurd (cc)
owned_phase e s t row popped x g c phases.Untied ne owner unmerged fits = let bad : owners.Thread t ≡ owners.Nobody =
    sym owner ∙ fits.owner in absurd (cc)
owned_phase e s t row popped x g c phases.Shut ne owner unmerged fits =
    same_shut e x (record x { state = states.Queued }) g c (λ is. is) fits
owned_phase e s t row popped x g c phases.Held ne owner unmerged fits =
    absurd (true≢false (sym (ap is_merged fits) ∙ unmerged))
owned_phase e s t row popped x g c phases.Offered ne owner unmerged fits = let bad : owners.Thread t ≡ owners.Thread s =
    sym owner ∙ fits.owner in absurd (ne (cc))
owned_phase e s t row popped x g c phases.Yielding ne owner unmerged fits = let bad : owners.Thread t ≡ owners.Nobody =
    sym owner ∙ fits.owner in absurd (cc)
owned_phase e s t row popped x g c _ ne owner unmerged fits = fits

-- what a thread owns is on no worklist but its own, so off that one nobody grips it while its hand is free
pub owner_alone : (h : Heap) (t c : ℕ) → IsSound h → FIRST_MORTAL ≤ c → (cell_at h c).owner ≡ owners.Thread t
    → is_marked (worklist_at h t) c ≡ false
    → one (grips c (row_at h t).hand) ≡ 0 → gripped h c ≡ 0
owner_alone h t c sound mortal owner off free =
    let marks : sum_by (λ (marks : List Bool). one (is_marked marks c)) h.worklists ≡ 0 =
    sum_none (λ (marks : List Bool). one (is_marked marks c)) h.worklists []
    (λ s. elim (cases_Bool (is_marked (worklist_at h s) c)) [
      | inr unmarked ↦ ap one unmarked
      | inl on ↦ elim (sound.worklists s c on).whose [
        | inl merged ↦ absurd (true≢false (sym (ap is_merged merged) ∙ (sound.cells c mortal).owned_unmerged t owner))
        | inr theirs ↦ let e : owners.Thread s ≡ owners.Thread t = sym theirs ∙ owner in
            let same : s ≡ t = cc in absurd (true≢false (sym on ∙ ap (λ j. is_marked (worklist_at h j) c) same ∙ off))
      ]
    ]) in
    let rows : sum_by (λ (row : Row). one (grips c row.hand)) h.rows ≡ 0 =
    sum_none (λ (row : Row). one (grips c row.hand)) h.rows no_row (λ s.
    elim (cases_eq s t) [
      | inl same ↦ ap (λ j. one (grips c (row_at h j).hand)) same ∙ free
      | inr other ↦ hand_apart h t s c (row_at h s).hand sound owner other refl
    ]) in
    omega (arith, marks, rows)

offer_turn : (h : Heap) (t c : ℕ) → IsSound h → thread_may h t (Offer c) ≡ true
    → Turn h t c (record (cell_at h c) { state = states.Queued }) (hands.Busy phases.Offered c) (frame_at h t)
    (worklist_at h t) h.entries
offer_turn h t c sound ok =
    let may : May h t (Offer c) = may_parts h t (Offer c) ok in
    let x : Cell = cell_at h c in
    let y : Cell = record x { state = states.Queued } in
    let at_cell : OnCell h t (Offer c) c = on_cell h t (Offer c) c may.on_target in
    let owner : x.owner ≡ owners.Thread t = thread_owner t x.owner at_cell.fits in
    let mortal : FIRST_MORTAL ≤ c = elim (cases_lt c FIRST_MORTAL) [
      | inr high ↦ high
      | inl low ↦ absurd (let bad : owners.Thread t ≡ owners.Nobody = sym owner ∙ (sound.immortals c low).owner in cc)
    ] in
    let free : (row_at h t).hand ≡ hands.Free = free_hand _ may.hand in
    let active : (row_at h t).stage ≡ stages.Active = active_from _ (Offer c) may.stage refl refl refl in
    let live : lives x.owner ≡ true = ap lives owner in
    let fits : CellFits (length h.rows) h.limit (rests_at h) x (entries_at h c) = sound.cells c mortal in
    let unmerged : is_merged x.state ≡ false = fits.owned_unmerged t owner in
    let none : gripped h c ≡ 0 = owner_alone h t c sound mortal owner (not-true _ may.own) (grips_free c _ free) in
    let local : 1 ≤ x.local = local_positive h t c sound mortal owner none in
    let here : one (c == c) ≡ 1 = ap one (eq-eqb c c refl) in
    let counts : counted_in y ≡ counted_in x = live_counts y live
    ∙ sym (live_counts x live ∙ total_unmerged x.state x.local x.count unmerged) in
    let grips_now : grips_of y ≡ 0 = ap (λ o. grips_by_owner o states.Queued x.local x.count) owner
    ∙ ap one (ne_eqb x.local 0 (λ e. omega (arith, e, local))) in
    let asked : asks_least y ≤ 1 = one-le (is_threads x.owner) in
    record {
      acts = acts h t (Offer c) may refl refl refl;
      cell_inside = at_cell.inside;
      mortal = mortal;
      mutex = refl;
      bearer = refl;
      live = refl;
      vacant = λ j none. none;
      places = (sound.threads t).places;
      marks = refl;
      lists = refl;
      counted_here = omega (arith, ints, counts, carries_free c _ free);
      part_else = λ q _. refl;
      gripped_here = omega (arith, grips_now, sound.gripped c mortal, none, grips_free c _ free);
      most_here = omega (arith, sound.most c mortal, one-le (not (is_default x.state)), carries_free c _ free);
      least_here = omega (arith, asked, here, carries_free c _ free, offers_free c _ free);
      before = λ p d e. let bad : hands.Free ≡ hands.Busy p d = sym free ∙ e in absurd (cc);
      after = λ p d e. let same = busy_same phases.Offered c (hands.Busy phases.Offered c) refl p d e in (
        same.0,
        subst (λ z. PhaseFits h.edition t (record (row_at h t) { hand = hands.Busy phases.Offered c }) (popped_at h t) y
            (row_at h x.bearer).stage c z) (sym same.1)
            (record { owner = owner; local = local; state = refl }),
      );
      idle = never_idle h t (hands.Busy phases.Offered c) (ap is_active active);
      hands_else = λ s p ne busy. owned_phase h.edition s t (row_at h s) (popped_at h s) x (row_at h x.bearer).stage c p
          ne owner unmerged (sound.hands s c p busy).fits;
      cell = record {
        default = λ e. let bad : states.Queued ≡ states.Default = e in absurd (cc);
        owned_unmerged = λ s e. refl;
        owned_by_bearer = fits.owned_by_bearer;
        rested = fits.rested;
        dead_empty = fits.dead_empty;
        dead_count = fits.dead_count;
        born = fits.born;
        limited = fits.limited;
        plain = fits.plain;
        few = fits.few;
      };
      fewer = λ q _. same_entries _;
      works_here = λ on. absurd (true≢false (sym on ∙ not-true _ may.own));
      marks_else = λ q _. refl;
      works_else = λ s ne on. absurd (no_mark _ (ungripped h c none s).mark on);
    }

pub offer_sound : (h : Heap) (t c : ℕ) → IsSound h → thread_may h t (Offer c) ≡ true → IsSound (stepped h t (Offer c) c)
offer_sound h t c sound ok =
    turn_sound h t c (record (cell_at h c) { state = states.Queued }) (hands.Busy phases.Offered c) (frame_at h t)
    (worklist_at h t) h.entries sound (offer_turn h t c sound ok)
