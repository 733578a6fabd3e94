-- A birth: a free cell is claimed, its words are set, and the object is there with one reference.
use Rattle.std.proofs.Common.{◌≡◌, ◌≢◌, ℕ, ◌<◌, ◌≤◌, ◌==◌, ◌&&◌, Bool, true, false, pos, ◌+ℤ◌, ◌≤ℤ◌, List, [], length}
use Rattle.std.proofs.Common.{set, Option, Some, None, sum_by, refl, sym, ◌∙◌, ap, subst, inl, inr, arith}
use Rattle.std.proofs.lemmas.List.{get_or-set_same, get_or-set_other, length-set}
use Rattle.std.proofs.lemmas.List.Sums.{sum_by-set}
use Rattle.std.proofs.lemmas.Bool.{cases_eq, eq-eqb, ne_eqb, and_parts, leb-true, ltb-true, true≢false}
use Rattle.std.proofs.lemmas.Int.{ints}
use Rattle.brc_words.specs.declared.limits.TheConstants.{FIRST_MORTAL, MOST_BIRTHS, MOST_PLACES}
use Rattle.brc_words.specs.declared.kind.Kind.{Kind}
use Rattle.brc_words.specs.declared.owner.Owner.TheVariants as owners
use Rattle.brc_words.specs.declared.state.State.TheVariants as states
use Rattle.law.specs.world.Phases.{has_reference, is_gripping, is_offering}
use Rattle.law.specs.declared.world.cell.Cell.{Cell}
use Rattle.law.specs.declared.world.edition.Edition.{Edition}
use Rattle.law.specs.declared.world.event.Step.{Step}
use Rattle.law.specs.declared.world.event.Step.TheVariants.{Claim, InitLocal, InitShared, Birth}
use Rattle.law.specs.declared.world.row.Row.{Row}
use Rattle.law.specs.declared.world.row.Hand.TheVariants as hands
use Rattle.law.specs.declared.world.row.Phase.{Phase}
use Rattle.law.specs.declared.world.row.Phase.TheVariants as phases
use Rattle.law.specs.declared.world.row.Stage.{Stage}
use Rattle.law.specs.declared.world.row.Stage.TheVariants as stages
use Rattle.law.specs.world.Lists.{one, entry_times, is_marked, filled}
use Rattle.law.specs.world.Heap.{Heap, cell_at, entries_at, row_at, frame_at, popped_at, worklist_at}
use Rattle.law.specs.world.Steps.{thread_may, is_shut, stepped, cell_after, row_after, stage_ok, lock_ok}
use Rattle.law.specs.world.Steps.{may_after_leaving, is_close, needs_lock, is_active, is_closed, is_queued, is_merged}
use Rattle.law.specs.world.Steps.{is_open}
use Rattle.law.specs.world.Holding.{lives, carries, count_of_state}
use Rattle.law.specs.world.Sound.{IsSound, ThreadFits, PhaseFits, Births, HandFits, counted_in, grips_of}
use Rattle.law.specs.world.Sound.{grips_by_owner, grips, is_threads, asks_least, in_entries, Offered, offering}
use Rattle.law.specs.world.Sound.{rests_at}
use Rattle.law.proofs.world.Naming.{Unheld, Ungripped, dead_unheld, ungripped, sole_grip, unnamed, no_mark, grips_free}
use Rattle.law.proofs.world.Naming.{carries_free, free_hand, busy_hand, free_owner, dead_counts, grips_once}
use Rattle.law.proofs.world.Naming.{active_works, offers_free, offers_none, offers_else, unoffered}
use Rattle.law.proofs.world.Framing.{times-filled, length-filled}
use Rattle.law.proofs.world.Asking.{May, OnCell, on_cell, may_parts, Vacant, vacant}
use Rattle.law.proofs.world.Changes.{same_entries, Fewer}
use Rattle.law.proofs.world.Plainly.{Plain, plain_sound}

-- ---- threads

-- only an active thread makes these steps
pub active_from : (stage : Stage) (s : Step) → stage_ok stage s ≡ true → may_after_leaving s ≡ false
    → is_close s ≡ false → is_open s ≡ false → stage ≡ stages.Active
active_from stages.Active s ok more close opens = refl
active_from (stages.Closing n) s ok more close opens = absurd (true≢false (sym ok ∙ close))
active_from stages.Left s ok more close opens = absurd (true≢false (sym ok ∙ more))
active_from (stages.Opening n) s ok more close opens = absurd (true≢false (sym ok ∙ opens))

-- without a lock
pub no_lock : (locked : Option ℕ) (s : Step) → lock_ok locked s ≡ true → needs_lock s ≡ false → locked ≡ None
no_lock None s ok plain = refl
no_lock (Some k) s ok plain = absurd (true≢false (sym ok ∙ plain))

-- what an active thread's own part owes when its row, frame and worklist change
pub active_fits : (e : Edition) (words : ℕ) (row row' : Row) (frame frame' : List (Option ℕ)) (popped : List ℕ)
    (worklist work' : List Bool) (queue : List ℕ) (gathered : Bool)
    → row.stage ≡ stages.Active → gathered ≡ false → row'.stage ≡ row.stage
    → ((k : ℕ) → row'.locked ≡ Some k → row'.hand ≡ hands.Free) → row'.allocs ≤ MOST_BIRTHS
    → length frame' ≤ MOST_PLACES
    → ThreadFits e words row' frame' popped work' queue gathered
active_fits e words row row' frame frame' popped worklist work' queue gathered active here same lock births places =
    let now : row'.stage ≡ stages.Active = same ∙ active in
    let no : is_active row'.stage ≡ false → ⊥ = λ h. true≢false (sym (ap is_active now) ∙ h) in
    record {
      inactive_hand = λ h. absurd (no h);
      inactive_frame = λ h. absurd (no h);
      inactive_lock = λ h. absurd (no h);
      closing = λ n h. let e : stages.Active ≡ stages.Closing n = sym now ∙ h in absurd (cc);
      closing_work = λ n q _ h. let e : stages.Active ≡ stages.Closing n = sym now ∙ h in absurd (cc);
      opening = λ n h. let e : stages.Active ≡ stages.Opening n = sym now ∙ h in absurd (cc);
      opening_rest = λ n q h. let e : stages.Active ≡ stages.Opening n = sym now ∙ h in absurd (cc);
      closed = λ k h. absurd (true≢false (sym h ∙ ap (λ stage. is_closed stage k) now));
      gathered_left = λ h. absurd (true≢false (sym h ∙ here));
      gathered_hand = λ h. absurd (true≢false (sym h ∙ here));
      gathered_work = λ h. absurd (true≢false (sym h ∙ here));
      locked_hand = lock;
      births = births;
      places = places;
    }

-- ---- a hand that goes on with a birth

pub one_and : (a b : Bool) → b ≡ false → one (a && b) ≡ 0
one_and true b h = ap one h
one_and false b h = refl

-- the hand names no other cell
pub busy_else : (p : Phase) (c q : ℕ) → q ≢ c
    → (one (grips q (hands.Busy p c)) ≡ 0) × (one (carries q (hands.Busy p c)) ≡ 0)
busy_else p c q ne =
    let differs : (c == q) ≡ false = ne_eqb c q (λ e. ne (sym e)) in
    (one_and (is_gripping p) (c == q) differs, one_and (has_reference p) (c == q) differs)

pub busy_grips : (p : Phase) (c : ℕ) → is_gripping p ≡ true → one (grips c (hands.Busy p c)) ≡ 1
busy_grips p c g = ap (λ b. one (b && (c == c))) g ∙ ap one (eq-eqb c c refl)

pub busy_carries : (p : Phase) (c : ℕ) → has_reference p ≡ false → one (carries c (hands.Busy p c)) ≡ 0
busy_carries p c g = ap (λ b. one (b && (c == c))) g

-- what a step of a birth rests on: the cell is dead, and nobody but the thread's hand names it
pub record Bears (h : Heap) (t c : ℕ) : Type 0 where
  pub mortal : FIRST_MORTAL ≤ c
  pub dead : lives (cell_at h c).owner ≡ false
  pub hand_else : (q : ℕ) → q ≢ c → (one (grips q (row_at h t).hand) ≡ 0) × (one (carries q (row_at h t).hand) ≡ 0)
  pub hand_here : one (grips c (row_at h t).hand) ≡ grips_of (cell_at h c)
  pub mark : one (is_marked (worklist_at h t) c) ≡ 0
  pub others : (s : ℕ) → s ≢ t → Ungripped h c s
  pub offers : (q : ℕ) → one (offering q (row_at h t).hand) ≡ 0

-- claimed and the two words set: the cell stays without an object, in the thread's hand
claim_fits : (h : Heap) (t c : ℕ) (s : Step) (x : Cell) (r : Row) (p : Phase) → IsSound h → May h t s
    → may_after_leaving s ≡ false → is_close s ≡ false → is_open s ≡ false → needs_lock s ≡ false → c < length h.cells
    → Bears h t c
    → x.owner ≡ owners.Claimed t → x.mutex ≡ (cell_at h c).mutex → x.bearer ≡ (cell_at h c).bearer → x.count ≡ pos 0
    → r.stage ≡ (row_at h t).stage → r.locked ≡ (row_at h t).locked → r.allocs ≡ (row_at h t).allocs
    → r.frees ≡ (row_at h t).frees
    → r.hand ≡ hands.Busy p c → is_gripping p ≡ true → has_reference p ≡ false → is_offering p ≡ false
    → ((g : Stage) → PhaseFits h.edition t r (popped_at h t) x g c p)
    → Plain h t c x r (frame_at h t) (worklist_at h t) h.entries
claim_fits h t c s x r p sound may runs opens reopens plain inside bears owner mutex bearer count stage locked allocs
    frees hand gripping no_reference no_offer phase =
    let none : Unheld h c = dead_unheld h c sound bears.mortal bears.dead in
    let active : (row_at h t).stage ≡ stages.Active = active_from _ s may.stage runs opens reopens in
    let unlocked : r.locked ≡ None = locked ∙ no_lock _ s may.lock plain in
    let dead : lives x.owner ≡ false = ap lives owner in
    let old_count : counted_in (cell_at h c) ≡ pos 0 = dead_counts (cell_at h c) bears.dead in
    let new_count : counted_in x ≡ pos 0 = dead_counts x dead in
    let old_carries : one (carries c (row_at h t).hand) ≡ 0 = none.hands t in
    let new_carries : one (carries c r.hand) ≡ 0 = ap (λ z. one (carries c z)) hand ∙ busy_carries p c no_reference in
    let new_grips : one (grips c r.hand) ≡ 1 = ap (λ z. one (grips c z)) hand ∙ busy_grips p c gripping in
    let grip : grips_of x ≡ 1 = ap (λ o. grips_by_owner o x.state x.local x.count) owner in
    let asked : asks_least x ≡ 0 = ap (λ o. one (is_queued x.state && is_threads o)) owner
    ∙ one_and (is_queued x.state) false refl in
    let new_else : (q : ℕ) → q ≢ c → (one (grips q r.hand) ≡ 0) × (one (carries q r.hand) ≡ 0) = λ q ne.
    subst (λ z. (one (grips q z) ≡ 0) × (one (carries q z) ≡ 0)) (sym hand) (busy_else p c q ne) in
    record {
      thread = may.some_thread;
      thread_inside = may.inside;
      cell_inside = inside;
      immortal = λ low. absurd (omega (arith, low, bears.mortal));
      mutex = mutex;
      bearer = inl bearer;
      stage = stage;
      locked = locked;
      locked_place = λ k _. refl;
      marks = refl;
      lists = refl;
      counted_here = λ _. omega (arith, ints, old_count, new_count, old_carries, new_carries);
      counted_else = λ q _ ne. omega (arith, (bears.hand_else q ne).1, (new_else q ne).1);
      gripped_here = λ _. omega (arith, grip, bears.hand_here, new_grips);
      gripped_else = λ q _ ne. omega (arith, (bears.hand_else q ne).0, (new_else q ne).0);
      most_here = λ _. omega (arith, none.asks, old_carries, new_carries);
      least_here = λ _. omega (arith, none.asks, old_carries, new_carries, asked, bears.offers c);
      offers_else = λ q _ ne. offers_none p c q r.hand no_offer hand ∙ sym (bears.offers q);
      asks_else = λ q _ ne. (new_else q ne).1 ∙ sym (bears.hand_else q ne).1;
      hand = λ q d busy. let e : hands.Busy q d ≡ hands.Busy p c = sym busy ∙ hand in
          let same_phase : q ≡ p = cc in let same_cell : d ≡ c = cc in (
            same_cell,
            bears.mortal,
            subst (λ z. PhaseFits h.edition t r (popped_at h t) x (row_at h x.bearer).stage c z)
                (sym same_phase) (phase (row_at h x.bearer).stage),
          );
      hands_else = λ j q ne busy. absurd (unnamed q c (row_at h j).hand (bears.others j ne).hand (none.hands j)
          (unoffered h j c _ sound refl (λ (o : Offered j (cell_at h c)). true≢false (sym (ap lives o.owner)
          ∙ bears.dead))) busy);
      cell = λ mortal. record {
        default = λ _. subst (λ z. pos 0 ≤ℤ z) (sym count) (omega (arith, ints));
        owned_unmerged = λ j e. let bad : owners.Claimed t ≡ owners.Thread j = sym owner ∙ e in absurd (cc);
        owned_by_bearer = λ j e. let bad : owners.Claimed t ≡ owners.Thread j = sym owner ∙ e in absurd (cc);
        rested = λ j e _. let bad : owners.Claimed t ≡ owners.Thread j = sym owner ∙ e in absurd (cc);
        dead_empty = λ _. (sound.cells c mortal).dead_empty bears.dead;
        dead_count = λ _. count;
        born = λ live. absurd (true≢false (sym live ∙ dead));
        limited = λ live. absurd (true≢false (sym live ∙ dead));
        plain = λ _. (sound.cells c mortal).dead_empty bears.dead;
        few = (sound.cells c mortal).few;
      };
      fewer = λ q _. same_entries _;
      works_here = λ on. absurd (no_mark _ bears.mark on);
      works_own = λ q _ on. on;
      works_else = λ j ne on. absurd (no_mark _ (bears.others j ne).mark on);
      own = active_fits _ _ (row_at h t) r (frame_at h t) (frame_at h t) _ (worklist_at h t)
          (worklist_at h t) _ _ active may.not_gathered stage
          (λ k e. let bad : None ≡ Some k = sym unlocked ∙ e in absurd (cc))
          (subst (λ n. n ≤ MOST_BIRTHS) (sym allocs) (sound.threads t).births) (sound.threads t).places;
      ledger = omega (arith, allocs, frees, ap one bears.dead, ap one dead);
    }

-- ---- the four steps

pub claim_sound : (h : Heap) (t c : ℕ) → IsSound h → thread_may h t (Claim c) ≡ true → IsSound (stepped h t (Claim c) c)
claim_sound h t c sound ok =
    let may : May h t (Claim c) = may_parts h t (Claim c) ok in
    let at_cell : OnCell h t (Claim c) c = on_cell h t (Claim c) c may.on_target in
    let parts = and_parts _ _ at_cell.fits in
    let mortal : FIRST_MORTAL ≤ c = leb-true FIRST_MORTAL c parts.0 in
    let free : (cell_at h c).owner ≡ owners.Free = free_owner _ parts.1 in
    let hand : (row_at h t).hand ≡ hands.Free = free_hand _ may.hand in
    let grip : grips_of (cell_at h c) ≡ 0 =
    ap (λ o. grips_by_owner o (cell_at h c).state (cell_at h c).local (cell_at h c).count) free in
    let alone : (s : ℕ) → Ungripped h c s = ungripped h c (sound.gripped c mortal ∙ grip) in
    let x : Cell = cell_after t (Claim c) c (cell_at h c) in
    let r : Row = row_after (Claim c) c (cell_at h c) (is_shut h c) (row_at h t) in
    plain_sound h t c x r (frame_at h t) (worklist_at h t) h.entries sound
    (claim_fits h t c (Claim c) x r phases.Claimed sound may refl refl refl refl at_cell.inside
    (record {
      mortal = mortal;
      dead = ap lives free;
      hand_else = λ q _. (grips_free q _ hand, carries_free q _ hand);
      hand_here = grips_free c _ hand ∙ sym grip;
      mark = (alone t).mark;
      others = λ s _. alone s;
      offers = λ q. offers_free q _ hand;
    })
    refl refl refl ((sound.cells c mortal).dead_count (ap lives free)) refl refl refl refl refl refl refl
    refl (λ g. record { claimed = refl; more = ltb-true _ _ may.own }))

-- what holds while a birth is in the thread's hand
birth_bears : (h : Heap) (t c : ℕ) (p : Phase) → IsSound h → (row_at h t).hand ≡ hands.Busy p c → is_gripping p ≡ true
    → is_offering p ≡ false → FIRST_MORTAL ≤ c
    → (cell_at h c).owner ≡ owners.Claimed t → Bears h t c
birth_bears h t c p sound busy gripping no_offer mortal owner =
    let grip : grips_of (cell_at h c) ≡ 1 =
    ap (λ o. grips_by_owner o (cell_at h c).state (cell_at h c).local (cell_at h c).count) owner in
    let here : one (grips c (row_at h t).hand) ≡ 1 = ap (λ z. one (grips c z)) busy ∙ busy_grips p c gripping in
    record {
      mortal = mortal;
      dead = ap lives owner;
      hand_else = λ q ne. subst (λ z. (one (grips q z) ≡ 0) × (one (carries q z) ≡ 0)) (sym busy) (busy_else p c q ne);
      hand_here = here ∙ sym grip;
      mark = omega (arith, grips_once h c t sound mortal, here);
      others = sole_grip h c t sound mortal (omega (arith, here));
      offers = λ q. offers_none p c q _ no_offer busy;
    }

pub local_sound : (h : Heap) (t c : ℕ) → IsSound h → thread_may h t (InitLocal c) ≡ true
    → IsSound (stepped h t (InitLocal c) c)
local_sound h t c sound ok =
    let may : May h t (InitLocal c) = may_parts h t (InitLocal c) ok in
    let at_cell : OnCell h t (InitLocal c) c = on_cell h t (InitLocal c) c may.on_target in
    let busy : (row_at h t).hand ≡ hands.Busy phases.Claimed c = busy_hand phases.Claimed c _ may.hand in
    let said : HandFits h t phases.Claimed c = sound.hands t c phases.Claimed busy in
    let births : Births t (row_at h t) (cell_at h c) = said.fits in
    let bears : Bears h t c = birth_bears h t c phases.Claimed sound busy refl refl said.mortal births.claimed in
    let x : Cell = cell_after t (InitLocal c) c (cell_at h c) in
    let r : Row = row_after (InitLocal c) c (cell_at h c) (is_shut h c) (row_at h t) in
    plain_sound h t c x r (frame_at h t) (worklist_at h t) h.entries sound
    (claim_fits h t c (InitLocal c) x r phases.Counted sound may refl refl refl refl at_cell.inside bears
    births.claimed refl refl ((sound.cells c said.mortal).dead_count bears.dead) refl refl refl refl refl refl refl
    refl (λ g. (record { claimed = births.claimed; more = births.more }, refl)))

pub shared_sound : (h : Heap) (t c : ℕ) → IsSound h → thread_may h t (InitShared c) ≡ true
    → IsSound (stepped h t (InitShared c) c)
shared_sound h t c sound ok =
    let may : May h t (InitShared c) = may_parts h t (InitShared c) ok in
    let at_cell : OnCell h t (InitShared c) c = on_cell h t (InitShared c) c may.on_target in
    let busy : (row_at h t).hand ≡ hands.Busy phases.Counted c = busy_hand phases.Counted c _ may.hand in
    let said : HandFits h t phases.Counted c = sound.hands t c phases.Counted busy in
    let fits : Births t (row_at h t) (cell_at h c) × ((cell_at h c).local ≡ 1) = said.fits in
    let births : Births t (row_at h t) (cell_at h c) = fits.0 in
    let bears : Bears h t c = birth_bears h t c phases.Counted sound busy refl refl said.mortal births.claimed in
    let x : Cell = cell_after t (InitShared c) c (cell_at h c) in
    let r : Row = row_after (InitShared c) c (cell_at h c) (is_shut h c) (row_at h t) in
    plain_sound h t c x r (frame_at h t) (worklist_at h t) h.entries sound
    (claim_fits h t c (InitShared c) x r phases.Ready sound may refl refl refl refl at_cell.inside bears
    births.claimed refl refl refl refl refl refl refl refl refl refl
    refl (λ g. (record { claimed = births.claimed; more = births.more }, fits.1, refl)))

-- the object is there: its first reference is in the frame, and its local count is 1
pub birth_sound : (h : Heap) (t c : ℕ) (kind : Kind) (k : ℕ) → IsSound h → thread_may h t (Birth c kind k) ≡ true
    → IsSound (stepped h t (Birth c kind k) c)
birth_sound h t c kind k sound ok =
    let may : May h t (Birth c kind k) = may_parts h t (Birth c kind k) ok in
    let at_cell : OnCell h t (Birth c kind k) c = on_cell h t (Birth c kind k) c may.on_target in
    let busy : (row_at h t).hand ≡ hands.Busy phases.Ready c = busy_hand phases.Ready c _ may.hand in
    let said : HandFits h t phases.Ready c = sound.hands t c phases.Ready busy in
    let fits : Births t (row_at h t) (cell_at h c) × ((cell_at h c).local ≡ 1)
    × ((cell_at h c).state ≡ states.Default) = said.fits in
    let births : Births t (row_at h t) (cell_at h c) = fits.0 in
    let bears : Bears h t c = birth_bears h t c phases.Ready sound busy refl refl said.mortal births.claimed in
    let none : Unheld h c = dead_unheld h c sound bears.mortal bears.dead in
    let place : Vacant (frame_at h t) k = vacant _ k (and_parts _ _ may.own).1 in
    let active : (row_at h t).stage ≡ stages.Active = active_from _ (Birth c kind k) may.stage refl refl refl in
    let unlocked : (row_at h t).locked ≡ None = no_lock _ (Birth c kind k) may.lock refl in
    let x : Cell = cell_after t (Birth c kind k) c (cell_at h c) in
    let r : Row = row_after (Birth c kind k) c (cell_at h c) (is_shut h c) (row_at h t) in
    let f : List (Option ℕ) = filled (frame_at h t) k c in
    let es : List (List ℕ) = set h.entries c [] in
    let count : (cell_at h c).count ≡ pos 0 = (sound.cells c bears.mortal).dead_count bears.dead in
    let empty : entries_at h c ≡ [] = (sound.cells c bears.mortal).dead_empty bears.dead in
    let within : c < length h.entries = omega (arith, sound.shaped.entries, at_cell.inside) in
    let entries : (q : ℕ) → sum_by (entry_times q) es ≡ in_entries h q = λ q.
    omega (arith, sum_by-set (entry_times q) h.entries c [] [] within, ap (entry_times q) empty) in
    let here : (c == c) ≡ true = eq-eqb c c refl in
    let old_count : counted_in (cell_at h c) ≡ pos 0 = dead_counts (cell_at h c) bears.dead in
    let new_total : (pos (cell_at h c).local) +ℤ (cell_at h c).count ≡ pos 1 = omega (arith, ints, fits.1, count) in
    let new_count : counted_in x ≡ pos 1 = ap (λ s. count_of_state s (cell_at h c).local (cell_at h c).count) fits.2
    ∙ new_total in
    let grip : grips_of x ≡ 0 = ap (λ n. one (n == 0)) fits.1 in
    let filled_here = times-filled c (frame_at h t) k c place.none in
    let asked : asks_least x ≡ 0 = ap (λ s. one (is_queued s && true)) fits.2 in
    plain_sound h t c x r f (worklist_at h t) es sound (record {
      thread = may.some_thread;
      thread_inside = may.inside;
      cell_inside = at_cell.inside;
      immortal = λ low. absurd (omega (arith, low, bears.mortal));
      mutex = refl;
      bearer = inr none.bits;
      stage = refl;
      locked = refl;
      locked_place = λ j e. let bad : None ≡ Some j = sym unlocked ∙ e in absurd (cc);
      marks = refl;
      lists = length-set h.entries c [];
      counted_here = λ _. omega (
        arith,
        ints,
        old_count,
        new_count,
        none.frames t,
        none.hands t,
        none.entries,
        entries c,
        filled_here,
        ap one here,
      );
      counted_else = λ q _ ne. omega (
        arith,
        entries q,
        times-filled q (frame_at h t) k c place.none,
        ap one (ne_eqb c q (λ e. ne (sym e))),
        (bears.hand_else q ne).1,
      );
      gripped_here = λ _. omega (arith, grip, bears.hand_here);
      gripped_else = λ q _ ne. omega (arith, (bears.hand_else q ne).0);
      most_here = λ _. omega (arith, none.asks, none.hands t);
      least_here = λ _. omega (arith, none.asks, none.hands t, asked, bears.offers c);
      offers_else = λ q _ ne. sym (bears.offers q);
      asks_else = λ q _ ne. sym (bears.hand_else q ne).1;
      hand = λ q d busy. let bad : hands.Free ≡ hands.Busy q d = busy in absurd (cc);
      hands_else = λ j q ne busy. absurd (unnamed q c (row_at h j).hand (bears.others j ne).hand (none.hands j)
          (unoffered h j c _ sound refl (λ (o : Offered j (cell_at h c)). true≢false (sym (ap lives o.owner)
          ∙ bears.dead))) busy);
      cell = λ mortal. record {
        default = λ _. subst (λ z. pos 0 ≤ℤ z) (sym count) (omega (arith, ints));
        owned_unmerged = λ j _. ap is_merged fits.2;
        owned_by_bearer = λ j e. cc;
        rested = λ j e rest. let same : t ≡ j = cc in
            absurd (true≢false (sym rest ∙ ap (rests_at h) (sym same) ∙ active_works h.edition _ active));
        dead_empty = λ dead. absurd (true≢false dead);
        dead_count = λ _. count;
        born = λ _. (may.some_thread, may.inside);
        limited = λ _. omega (arith, fits.1, sound.shaped.options.counts);
        plain = λ _. get_or-set_same h.entries c [] [] within;
        few = omega (arith, ap (λ (xs : List ℕ). length xs) (get_or-set_same h.entries c [] [] within));
      };
      fewer = λ q other. elim (cases_eq q c) [
        | inl same ↦ absurd (other (omega (arith, same, bears.mortal)) same)
        | inr ne ↦ subst (λ xs. Fewer (entries_at h q) xs) (sym (get_or-set_other h.entries c q [] [] ne))
            (same_entries (entries_at h q))
      ];
      works_here = λ on. absurd (no_mark _ bears.mark on);
      works_own = λ q _ on. on;
      works_else = λ j ne on. absurd (no_mark _ (bears.others j ne).mark on);
      own = active_fits _ _ (row_at h t) r (frame_at h t) f _ (worklist_at h t) (worklist_at h t) _ _ active
          may.not_gathered refl
          (λ j _. refl) (omega (arith, births.more))
          (length-filled (frame_at h t) k c place.low (sound.threads t).places);
      ledger = omega (arith, ap one bears.dead);
    })
