-- The end of an object: its shared word is looked at, its block goes to the worklist, and is given back.
use Rattle.std.proofs.Common.{◌≡◌, ◌≢◌, ℕ, ◌<◌, ◌≤◌, ◌==◌, ◌&&◌, Bool, true, false, if◌then◌else◌, pos, ◌+ℤ◌, ◌≤ℤ◌}
use Rattle.std.proofs.Common.{List, [], ◌∷◌, length, set, Some, None, refl, sym, ◌∙◌, ap, subst, inl, inr, arith}
use Rattle.std.proofs.lemmas.List.{get_or-set_same, get_or-set_other, length-set}
use Rattle.std.proofs.lemmas.Bool.{cases_eq, cases_Bool, eq-eqb, ne_eqb, eqb-true, and_parts, true≢false}
use Rattle.std.proofs.lemmas.Int.{ints}
use Rattle.brc_words.specs.declared.limits.TheConstants.{FIRST_MORTAL}
use Rattle.brc_words.specs.declared.owner.Owner.TheVariants as owners
use Rattle.brc_words.specs.declared.state.State.TheVariants as states
use Rattle.law.specs.declared.world.cell.Cell.{Cell}
use Rattle.law.specs.declared.world.event.Step.TheVariants.{SeeZero, Free}
use Rattle.law.specs.declared.world.row.Row.{Row}
use Rattle.law.specs.declared.world.row.Hand.TheVariants as hands
use Rattle.law.specs.declared.world.row.Phase.TheVariants as phases
use Rattle.law.specs.declared.world.row.Stage.TheVariants as stages
use Rattle.law.specs.world.Lists.{one, is_marked}
use Rattle.law.specs.world.Heap.{Heap, cell_at, entries_at, row_at, frame_at, popped_at, worklist_at, queue_at}
use Rattle.law.specs.world.Heap.{is_gathered, words_for, no_row}
use Rattle.law.specs.world.Steps.{thread_may, is_shut, stepped, cell_after, row_after, is_untouched, is_queued}
use Rattle.law.specs.world.Holding.{lives, carries, count_of_state}
use Rattle.law.specs.world.Sound.{IsSound, ThreadFits, PhaseFits, HandFits, WorklistFits, counted_in, grips_of}
use Rattle.law.specs.world.Sound.{grips_by_owner, grips, gripped, offering}
use Rattle.law.proofs.world.Naming.{Unheld, Ungripped, unheld, sole_grip, grips_once, unnamed, no_mark, one-true}
use Rattle.law.proofs.world.Naming.{free_hand, busy_hand, live_counts, zero_count, default_state, sum_one, grips_of-le}
use Rattle.law.proofs.world.Naming.{offers_none, unoffered, gripped_unoffered, offers_free}
use Rattle.law.proofs.world.Birthing.{active_from, active_fits, no_lock, busy_else, busy_grips, one_and}
use Rattle.law.proofs.world.Counting.{marked_unheld, total_unmerged}
use Rattle.law.proofs.world.Asking.{May, OnCell, on_cell, may_parts}
use Rattle.law.proofs.world.Changes.{same_entries}
use Rattle.law.proofs.world.Plainly.{Plain, plain_sound}

-- ---- seeing zero

-- what a hand zero rests on
record Zero (h : Heap) (t c : ℕ) : Type 0 where
  pub may : May h t (SeeZero c)
  pub inside : c < length h.cells
  pub busy : (row_at h t).hand ≡ hands.Busy phases.Zero c
  pub mortal : FIRST_MORTAL ≤ c
  pub owner : (cell_at h c).owner ≡ owners.Thread t
  pub active : (row_at h t).stage ≡ stages.Active
  pub unlocked : (row_at h t).locked ≡ None
  pub grip : one (grips c (row_at h t).hand) ≡ 1
  pub mark : one (is_marked (worklist_at h t) c) ≡ 0
  pub local : (cell_at h c).local ≡ 0

zero_parts : (h : Heap) (t c : ℕ) → IsSound h → thread_may h t (SeeZero c) ≡ true → Zero h t c
zero_parts h t c sound ok =
    let may : May h t (SeeZero c) = may_parts h t (SeeZero c) ok in
    let busy : (row_at h t).hand ≡ hands.Busy phases.Zero c = busy_hand phases.Zero c _ may.hand in
    let said : HandFits h t phases.Zero c = sound.hands t c phases.Zero busy in
    let owner : (cell_at h c).owner ≡ owners.Thread t = said.fits in
    let grip : one (grips c (row_at h t).hand) ≡ 1 = ap (λ z. one (grips c z)) busy ∙ busy_grips phases.Zero c refl in
    let all : 1 ≤ gripped h c =
    omega (arith, grip, sum_one (λ (row : Row). one (grips c row.hand)) h.rows t no_row refl) in
    let gone : one ((cell_at h c).local == 0) ≡ grips_of (cell_at h c) =
    sym (ap (λ o. grips_by_owner o (cell_at h c).state (cell_at h c).local (cell_at h c).count) owner) in
    record {
      may = may;
      inside = (on_cell h t (SeeZero c) c may.on_target).inside;
      busy = busy;
      mortal = said.mortal;
      owner = owner;
      active = active_from _ (SeeZero c) may.stage refl refl refl;
      unlocked = no_lock _ (SeeZero c) may.lock refl;
      grip = grip;
      mark = omega (arith, grips_once h c t sound said.mortal, grip);
      local = elim (cases_eq (cell_at h c).local 0) [
        | inl zero ↦ zero
        | inr more ↦ absurd (omega (
          arith,
          all,
          gone,
          sound.gripped c said.mortal,
          ap one (ne_eqb (cell_at h c).local 0 more),
        ))
      ];
    }

-- the shared word is in default at count 0: the block goes to the worklist
taken_fits : (h : Heap) (t c : ℕ) → IsSound h → Zero h t c → is_untouched (cell_at h c) ≡ true
    → Plain h t c (cell_at h c) (record (row_at h t) { hand = hands.Free }) (frame_at h t)
    (set (worklist_at h t) c true) h.entries
taken_fits h t c sound zero untouched =
    let parts = and_parts _ _ untouched in
    let count : (cell_at h c).count ≡ pos 0 = zero_count _ parts.0 in
    let state : (cell_at h c).state ≡ states.Default = default_state _ parts.1 in
    let within : c < length (worklist_at h t) = omega (
      arith,
      sound.shaped.marks t zero.may.some_thread zero.may.inside,
      zero.inside,
    ) in
    let marked : one (is_marked (set (worklist_at h t) c true) c) ≡ 1 =
    ap one (get_or-set_same (worklist_at h t) c true false within) in
    let else_marked : (q : ℕ) → q ≢ c → is_marked (set (worklist_at h t) c true) q ≡ is_marked (worklist_at h t) q =
    λ q ne. get_or-set_other (worklist_at h t) c q true false ne in
    let hand_else : (q : ℕ) → q ≢ c → one (grips q (row_at h t).hand) ≡ 0 = λ q ne. ap (λ z. one (grips q z)) zero.busy
    ∙ (busy_else phases.Zero c q ne).0 in
    let no_carry : (q : ℕ) → one (carries q (row_at h t).hand) ≡ 0 = λ q. ap (λ z. one (carries q z)) zero.busy in
    let sum : pos (cell_at h c).local +ℤ (cell_at h c).count ≡ pos 0 = omega (arith, ints, zero.local, count) in
    record {
      thread = zero.may.some_thread;
      thread_inside = zero.may.inside;
      cell_inside = zero.inside;
      immortal = λ _. refl;
      mutex = refl;
      bearer = inl refl;
      stage = refl;
      locked = refl;
      locked_place = λ _ _. refl;
      marks = length-set (worklist_at h t) c true;
      lists = refl;
      counted_here = λ _. omega (arith, ints, no_carry c);
      counted_else = λ q _ _. omega (arith, no_carry q);
      gripped_here = λ _. omega (arith, zero.grip, zero.mark, marked);
      gripped_else = λ q _ ne. omega (arith, hand_else q ne, ap one (else_marked q ne));
      most_here = λ _. omega (arith, sound.most c zero.mortal, no_carry c);
      least_here = λ _. omega (
        arith,
        sound.least c zero.mortal,
        no_carry c,
        offers_none phases.Zero c c _ refl zero.busy,
      );
      offers_else = λ q _ ne. sym (offers_none phases.Zero c q _ refl zero.busy);
      asks_else = λ q _ _. sym (no_carry q);
      hand = λ p d busy. let bad : hands.Free ≡ hands.Busy p d = busy in absurd (cc);
      hands_else = λ s p ne busy. (sound.hands s c p busy).fits;
      cell = sound.cells c;
      fewer = λ q _. same_entries _;
      works_here = λ _. record {
        mortal = zero.mortal;
        lives = ap lives zero.owner;
        total = ap (λ s. count_of_state s (cell_at h c).local (cell_at h c).count) state ∙ sum;
        whose = inr zero.owner;
      };
      works_own = λ q ne on. sym (else_marked q ne) ∙ on;
      works_else = λ s ne on. sound.worklists s c on;
      own = active_fits _ _ (row_at h t) _ (frame_at h t) (frame_at h t) _ (worklist_at h t) _ _ _ zero.active
          zero.may.not_gathered refl
          (λ _ _. refl) (sound.threads t).births (sound.threads t).places;
      ledger = refl;
    }

-- somebody has counted or asked: the thread goes on to merge
over_fits : (h : Heap) (t c : ℕ) → IsSound h → Zero h t c
    → Plain h t c (cell_at h c) (record (row_at h t) { hand = hands.Busy phases.Over c }) (frame_at h t)
    (worklist_at h t) h.entries
over_fits h t c sound zero =
    let here : one (c == c) ≡ 1 = ap one (eq-eqb c c refl) in
    let hand_else : (q : ℕ) → q ≢ c → one (grips q (row_at h t).hand) ≡ 0 = λ q ne. ap (λ z. one (grips q z)) zero.busy
    ∙ (busy_else phases.Zero c q ne).0 in
    let no_carry : (q : ℕ) → one (carries q (row_at h t).hand) ≡ 0 = λ q. ap (λ z. one (carries q z)) zero.busy in
    record {
      thread = zero.may.some_thread;
      thread_inside = zero.may.inside;
      cell_inside = zero.inside;
      immortal = λ _. refl;
      mutex = refl;
      bearer = inl refl;
      stage = refl;
      locked = refl;
      locked_place = λ _ _. refl;
      marks = refl;
      lists = refl;
      counted_here = λ _. omega (arith, ints, no_carry c);
      counted_else = λ q _ _. omega (arith, no_carry q);
      gripped_here = λ _. omega (arith, zero.grip, here);
      gripped_else = λ q _ ne. omega (arith, hand_else q ne, (busy_else phases.Over c q ne).0);
      most_here = λ _. omega (arith, sound.most c zero.mortal, no_carry c);
      least_here = λ _. omega (
        arith,
        sound.least c zero.mortal,
        no_carry c,
        offers_none phases.Zero c c _ refl zero.busy,
      );
      offers_else = λ q _ ne. sym (offers_none phases.Zero c q _ refl zero.busy);
      asks_else = λ q _ _. sym (no_carry q);
      hand = λ p d busy. let same : hands.Busy phases.Over c ≡ hands.Busy p d = busy in
          let phase : p ≡ phases.Over = cc in (
            cc,
            zero.mortal,
            subst (λ z. PhaseFits h.edition t (record (row_at h t) { hand = hands.Busy phases.Over c })
                (popped_at h t) (cell_at h c) (row_at h (cell_at h c).bearer).stage c z) (sym phase) zero.owner,
          );
      hands_else = λ s p ne busy. (sound.hands s c p busy).fits;
      cell = sound.cells c;
      fewer = λ q _. same_entries _;
      works_here = sound.worklists t c;
      works_own = λ q _ on. on;
      works_else = λ s ne on. sound.worklists s c on;
      own = active_fits _ _ (row_at h t) _ (frame_at h t) (frame_at h t) _ (worklist_at h t) _ _ _ zero.active
          zero.may.not_gathered refl
          (λ k e. let bad : None ≡ Some k = sym zero.unlocked ∙ e in absurd (cc)) (sound.threads t).births
          (sound.threads t).places;
      ledger = refl;
    }

pub see_sound : (h : Heap) (t c : ℕ) → IsSound h → thread_may h t (SeeZero c) ≡ true
    → IsSound (stepped h t (SeeZero c) c)
see_sound h t c sound ok =
    let zero : Zero h t c = zero_parts h t c sound ok in
    elim (cases_Bool (is_untouched (cell_at h c))) [
      | inl untouched ↦ subst (λ b. IsSound (record h {
        cells = set h.cells c (cell_at h c);
        rows = set h.rows t (record (row_at h t) { hand = if b then hands.Free else hands.Busy phases.Over c });
        frames = set h.frames t (frame_at h t);
        popped = set h.popped t (popped_at h t);
        worklists = set h.worklists t (if b then set (worklist_at h t) c true else worklist_at h t);
      })) (sym untouched)
          (plain_sound h t c _ _ _ _ _ sound (taken_fits h t c sound zero untouched))
      | inr touched ↦ subst (λ b. IsSound (record h {
        cells = set h.cells c (cell_at h c);
        rows = set h.rows t (record (row_at h t) { hand = if b then hands.Free else hands.Busy phases.Over c });
        frames = set h.frames t (frame_at h t);
        popped = set h.popped t (popped_at h t);
        worklists = set h.worklists t (if b then set (worklist_at h t) c true else worklist_at h t);
      })) (sym touched)
          (plain_sound h t c _ _ _ _ _ sound (over_fits h t c sound zero))
    ]

-- ---- freeing

no_entries : (xs : List ℕ) → (length xs == 0) ≡ true → xs ≡ []
no_entries [] h = refl
no_entries (x ∷ xs) h = absurd (omega (arith, eqb-true _ _ h))

-- a dead block has no count either: it is merged, or its owner's count is 0
dead_count : (h : Heap) (t c : ℕ) → IsSound h → is_marked (worklist_at h t) c ≡ true → (cell_at h c).count ≡ pos 0
dead_count h t c sound on =
    let fits : WorklistFits t c (cell_at h c) = sound.worklists t c on in
    let x : Cell = cell_at h c in
    elim fits.whose [
      | inl merged ↦ sym (ap (λ s. count_of_state s x.local x.count) merged) ∙ fits.total
      | inr owner ↦
          let unmerged = (sound.cells c fits.mortal).owned_unmerged t owner in
          let sum : pos x.local +ℤ x.count ≡ pos 0 = sym (total_unmerged x.state x.local x.count unmerged)
          ∙ fits.total in
          let gone : one (x.local == 0) ≡ grips_of x = sym (ap (λ o. grips_by_owner o x.state x.local x.count) owner) in
          let all : 1 ≤ gripped h c =
          omega (
            arith,
            one-true _ on,
            sum_one (λ (marks : List Bool). one (is_marked marks c)) h.worklists t
                [] refl,
          ) in
          let none : x.local ≡ 0 = elim (cases_eq x.local 0) [
            | inl zero ↦ zero
            | inr more ↦ absurd (omega (arith, all, gone, sound.gripped c fits.mortal, ap one (ne_eqb x.local 0 more)))
          ] in
          omega (arith, ints, sum, none)
    ]

pub free_sound : (h : Heap) (t c : ℕ) → IsSound h → thread_may h t (Free c) ≡ true → IsSound (stepped h t (Free c) c)
free_sound h t c sound ok =
    let may : May h t (Free c) = may_parts h t (Free c) ok in
    let at_cell : OnCell h t (Free c) c = on_cell h t (Free c) c may.on_target in
    let parts = and_parts _ _ may.own in
    let on : is_marked (worklist_at h t) c ≡ true = parts.0 in
    let fits : WorklistFits t c (cell_at h c) = sound.worklists t c on in
    let hand : (row_at h t).hand ≡ hands.Free = free_hand _ may.hand in
    let none : Unheld h c = unheld h c (marked_unheld h t c sound on) in
    let others : (s : ℕ) → s ≢ t → Ungripped h c s = sole_grip h c t sound fits.mortal (omega (arith, one-true _ on)) in
    let within : c < length (worklist_at h t) = omega (
      arith,
      sound.shaped.marks t may.some_thread may.inside,
      at_cell.inside,
    ) in
    let off : is_marked (set (worklist_at h t) c false) c ≡ false =
    get_or-set_same (worklist_at h t) c false false within in
    let else_marked : (q : ℕ) → q ≢ c → is_marked (set (worklist_at h t) c false) q ≡ is_marked (worklist_at h t) q =
    λ q ne. get_or-set_other (worklist_at h t) c q false false ne in
    let fewer : (q : ℕ) → is_marked (worklist_at h t) q ≡ false → is_marked (set (worklist_at h t) c false) q
    ≡ false = λ q e.
    elim (cases_eq q c) [
      | inl same ↦ ap (is_marked (set (worklist_at h t) c false)) same ∙ off
      | inr ne ↦ else_marked q ne ∙ e
    ] in
    let old_grip : grips_of (cell_at h c) ≡ 1 =
    omega (
      arith,
      sound.gripped c fits.mortal,
      one-true _ on,
      sum_one (λ (marks : List Bool). one (is_marked marks c))
          h.worklists t [] refl,
      grips_of-le (cell_at h c).owner (cell_at h c).state (cell_at h c).local (cell_at h c).count,
    ) in
    let some_grip : 1 ≤ gripped h c =
    omega (arith, one-true _ on, sum_one (λ (marks : List Bool). one (is_marked marks c)) h.worklists t [] refl) in
    let old_count : counted_in (cell_at h c) ≡ pos 0 = live_counts (cell_at h c) fits.lives ∙ fits.total in
    let empty : entries_at h c ≡ [] = no_entries (entries_at h c) parts.1 in
    let count : (cell_at h c).count ≡ pos 0 = dead_count h t c sound on in
    let asked : one (is_queued (cell_at h c).state && false) ≡ 0 = one_and (is_queued (cell_at h c).state) false refl in
    let old : ThreadFits h.edition (words_for (length h.cells)) (row_at h t) (frame_at h t) (popped_at h t)
    (worklist_at h t) (queue_at h t) (is_gathered h t) = sound.threads t in
    plain_sound h t c (cell_after t (Free c) c (cell_at h c))
    (row_after (Free c) c (cell_at h c) (is_shut h c) (row_at h t)) (frame_at h t) (set (worklist_at h t) c false)
    h.entries sound (record {
      thread = may.some_thread;
      thread_inside = may.inside;
      cell_inside = at_cell.inside;
      immortal = λ low. absurd (omega (arith, low, fits.mortal));
      mutex = refl;
      bearer = inl refl;
      stage = refl;
      locked = refl;
      locked_place = λ _ _. refl;
      marks = length-set (worklist_at h t) c false;
      lists = refl;
      counted_here = λ _. omega (arith, ints, old_count);
      counted_else = λ q _ _. refl;
      gripped_here = λ _. omega (arith, old_grip, one-true _ on, ap one off);
      gripped_else = λ q _ ne. omega (arith, ap one (else_marked q ne));
      most_here = λ _. omega (arith, none.asks);
      least_here = λ _. omega (arith, none.asks, asked, offers_free c _ hand);
      offers_else = λ q _ ne. refl;
      asks_else = λ q _ _. refl;
      hand = λ p d busy. let bad : hands.Free ≡ hands.Busy p d = sym hand ∙ busy in absurd (cc);
      hands_else = λ s p ne busy. absurd (unnamed p c (row_at h s).hand (others s ne).hand (none.hands s)
          (unoffered h s c _ sound refl (gripped_unoffered h s c sound fits.mortal some_grip)) busy);
      cell = λ _. record {
        default = λ _. subst (λ z. pos 0 ≤ℤ z) (sym count) (omega (arith, ints));
        owned_unmerged = λ s e. let bad : owners.Free ≡ owners.Thread s = e in absurd (cc);
        owned_by_bearer = λ s e. let bad : owners.Free ≡ owners.Thread s = e in absurd (cc);
        rested = λ s e _. let bad : owners.Free ≡ owners.Thread s = e in absurd (cc);
        dead_empty = λ _. empty;
        dead_count = λ _. count;
        born = λ live. absurd (true≢false (sym live));
        limited = λ live. absurd (true≢false (sym live));
        plain = λ _. empty;
        few = (sound.cells c fits.mortal).few;
      };
      fewer = λ q _. same_entries _;
      works_here = λ still. absurd (true≢false (sym still ∙ off));
      works_own = λ q ne still. sym (else_marked q ne) ∙ still;
      works_else = λ s ne still. absurd (no_mark _ (others s ne).mark still);
      own = record {
        inactive_hand = old.inactive_hand;
        inactive_frame = old.inactive_frame;
        inactive_lock = old.inactive_lock;
        closing = old.closing;
        closing_work = λ n q one e. fewer q (old.closing_work n q one e);
        opening = old.opening;
        opening_rest = λ n q e. (fewer q (old.opening_rest n q e).0, (old.opening_rest n q e).1);
        closed = old.closed;
        gathered_left = old.gathered_left;
        gathered_hand = old.gathered_hand;
        gathered_work = λ g q. (fewer q (old.gathered_work g q).0, (old.gathered_work g q).1);
        locked_hand = old.locked_hand;
        births = old.births;
        places = old.places;
      };
      ledger = omega (arith, one-true _ fits.lives);
    })
