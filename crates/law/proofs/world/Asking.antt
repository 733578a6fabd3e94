-- What it means that a thread's step is enabled, test by test.
use Rattle.std.proofs.Common.{◌≡◌, ℕ, ◌<◌, true, false, List, length, Option, Some, None, is_none, refl, sym, subst}
use Rattle.std.proofs.Common.{inl, inr, ap, ◌∙◌, not}
use Rattle.std.proofs.lemmas.Bool.{cases_Bool, and_parts, not-true, eqb-true, ltb-true, true≢false}
use Rattle.brc_words.specs.declared.limits.TheConstants.{MOST_PLACES}
use Rattle.brc_words.specs.declared.owner.Owner.TheVariants as owners
use Rattle.law.specs.declared.world.cell.Cell.{Cell}
use Rattle.law.specs.declared.world.edition.Edition.{Edition}
use Rattle.law.specs.declared.world.edition.Edition.TheVariants as editions
use Rattle.law.specs.declared.world.row.Row.{Row}
use Rattle.law.specs.declared.world.event.Step.{Step}
use Rattle.law.specs.declared.world.event.Step.TheVariants.{Untie}
use Rattle.law.specs.declared.world.row.Hand.TheVariants as hands
use Rattle.law.specs.declared.world.row.Phase.TheVariants as phases
use Rattle.law.specs.declared.world.row.Stage.{Stage}
use Rattle.law.specs.declared.world.row.Stage.TheVariants as stages
use Rattle.law.specs.world.Lists.{place_at, bit_of}
use Rattle.law.specs.world.Heap.{Heap, cell_at, row_at, popped_at, is_gathered}
use Rattle.law.specs.world.Steps.{thread_may, stage_ok, lock_ok, hand_ok, own_ok_at, others_ok, target_ok, target_at}
use Rattle.law.specs.world.Steps.{cell_ok, is_vacant, is_mine, is_at, is_nobody, untie_ok, untied_ok, edition_ok}
use Rattle.law.specs.world.Steps.{is_shut_hand}
use Rattle.law.specs.world.Sound.{IsSound}
use Rattle.law.proofs.world.Naming.{third, busy_hand, free_hand, thread_owner, active_stage, fourth}

-- the tests of a thread's step
pub record May (h : Heap) (t : ℕ) (s : Step) : Type 0 where
  pub some_thread : 0 < t
  pub inside : t < length h.rows
  pub not_gathered : is_gathered h t ≡ false
  pub stage : stage_ok (row_at h t).stage s ≡ true
  pub lock : lock_ok (row_at h t).locked s ≡ true
  pub hand : hand_ok (row_at h t).hand s ≡ true
  pub own : own_ok_at h t s ≡ true
  pub others : others_ok h t s ≡ true
  pub edition : edition_ok h.edition (row_at h t) s ≡ true
  pub on_target : target_ok h t (row_at h t) s (target_at h t s) ≡ true

pub may_parts : (h : Heap) (t : ℕ) (s : Step) → thread_may h t s ≡ true → May h t s
may_parts h t s may =
    let a = and_parts _ _ may in
    let b = and_parts _ _ a.0 in
    let c = and_parts _ _ b.0 in
    let d = and_parts _ _ c.0 in
    let e = and_parts _ _ d.0 in
    let f = and_parts _ _ e.0 in
    let g = and_parts _ _ f.0 in
    let i = and_parts _ _ g.0 in
    let j = and_parts _ _ i.0 in
    record {
      some_thread = ltb-true _ _ j.0;
      inside = ltb-true _ _ j.1;
      not_gathered = not-true _ i.1;
      stage = g.1;
      lock = f.1;
      hand = e.1;
      own = d.1;
      others = c.1;
      edition = b.1;
      on_target = a.1;
    }

-- the cell that is meant
pub record OnCell (h : Heap) (t : ℕ) (s : Step) (c : ℕ) : Type 0 where
  pub inside : c < length h.cells
  pub fits : cell_ok h.limit t (row_at h t) s c (cell_at h c) ≡ true

pub on_cell : (h : Heap) (t : ℕ) (s : Step) (c : ℕ) → target_ok h t (row_at h t) s (Some c) ≡ true → OnCell h t s c
on_cell h t s c ok = let parts = and_parts _ _ ok in record { inside = ltb-true _ _ parts.0; fits = parts.1 }

-- a vacant place
pub none_there : (x : Option ℕ) → is_none x ≡ true → x ≡ None
none_there None h = refl
none_there (Some c) h = absurd (true≢false (sym h))

pub record Vacant (frame : List (Option ℕ)) (k : ℕ) : Type 0 where
  pub low : k < MOST_PLACES
  pub none : place_at frame k ≡ None

pub vacant : (frame : List (Option ℕ)) (k : ℕ) → is_vacant frame k ≡ true → Vacant frame k
vacant frame k h = let parts = and_parts _ _ h in record { low = ltb-true _ _ parts.0; none = none_there _ parts.1 }

-- the thread counts on the cell's local word
pub record Mine (t : ℕ) (stage : Stage) (x : Cell) : Type 0 where
  pub owner : x.owner ≡ owners.Thread t
  pub active : stage ≡ stages.Active

pub mine : (t : ℕ) (stage : Stage) (x : Cell) → is_mine t stage x ≡ true → Mine t stage x
mine t stage x h = let parts = and_parts _ _ h in
    record { owner = thread_owner t _ parts.0; active = active_stage _ parts.1 }

-- a thread unties in place of another in the first edition alone
shut_first : (e : Edition) (row : Row) (c d : ℕ) → row.hand ≡ hands.Busy phases.Shut d
    → edition_ok e row (Untie c) ≡ true → e ≡ editions.One
shut_first editions.One row c d busy ok = refl
shut_first editions.Two row c d busy ok =
    absurd (true≢false (sym (and_parts _ _ ok).1 ∙ ap (λ hand. not (is_shut_hand hand)) busy))

-- how a thread lets an object go: its own at count 0, one whose owner closed its merge queue to the thread, its own
-- that it hands over, or its own that it popped
pub data UntieWay (h : Heap) (t c : ℕ) : Type 0 where
  at_end : (row_at h t).hand ≡ hands.Busy phases.Over c → (cell_at h c).owner ≡ owners.Thread t → UntieWay h t c
  shut_out : (row_at h t).hand ≡ hands.Busy phases.Shut c → is_nobody (cell_at h c).owner ≡ false
      → h.edition ≡ editions.One → UntieWay h t c
  handed_over : (row_at h t).hand ≡ hands.Busy phases.Offered c → (cell_at h c).owner ≡ owners.Thread t → UntieWay h t c
  from_queue : (row_at h t).hand ≡ hands.Free → bit_of (popped_at h t) c ≡ 1 → (cell_at h c).owner ≡ owners.Thread t
      → UntieWay h t c

pub untie_way : (h : Heap) (t c : ℕ) → IsSound h → May h t (Untie c) → UntieWay h t c
untie_way h t c sound may =
    let at_cell : OnCell h t (Untie c) c = on_cell h t (Untie c) c may.on_target in
    elim (cases_Bool (is_at phases.Over c (row_at h t).hand)) [
      | inl over ↦ let busy = busy_hand phases.Over c _ over in at_end busy (sound.hands t c phases.Over busy).fits
      | inr apart ↦ elim (cases_Bool (is_at phases.Shut c (row_at h t).hand)) [
        | inl shut ↦ let busy = busy_hand phases.Shut c _ shut in
            shut_out busy (not-true _ (subst (λ g. untied_ok t g (cell_at h c) ≡ true) busy at_cell.fits))
            (shut_first h.edition (row_at h t) c c busy may.edition)
        | inr off ↦ elim (cases_Bool (is_at phases.Offered c (row_at h t).hand)) [
          | inl over ↦ let busy = busy_hand phases.Offered c _ over in
              handed_over busy (sound.hands t c phases.Offered busy).fits.owner
          | inr still ↦
              let free = free_hand _ (fourth _ _ _ _ apart off still may.hand) in
              from_queue free (eqb-true _ _ (subst (λ g. untie_ok g (popped_at h t) c ≡ true) free may.own))
              (thread_owner t _ (and_parts _ _ (subst (λ g. untied_ok t g (cell_at h c) ≡ true) free at_cell.fits)).0)
        ]
      ]
    ]
