-- In the second edition no hand merges what came late to a closed queue word, and only an active thread merges what it
-- popped.
use Rattle.std.proofs.Common.{◌≡◌, ◌≢◌, ℕ, ◌==◌, ◌&&◌, not, Bool, true, false, if◌then◌else◌, List, [], ◌∷◌, zero, suc}
use Rattle.std.proofs.Common.{length, Option, Some, None, refl, sym, ◌∙◌, ap, subst, inl, inr}
use Rattle.std.proofs.lemmas.Bool.{cases_Bool, and_parts, true≢false}
use Rattle.law.specs.declared.world.cell.Cell.{Cell}
use Rattle.law.specs.declared.world.edition.Edition.{Edition}
use Rattle.law.specs.declared.world.edition.Edition.TheVariants as editions
use Rattle.law.specs.declared.world.event.Event.{Event}
use Rattle.law.specs.declared.world.event.Step.{Step}
use Rattle.law.specs.declared.world.event.Step.TheVariants.{Claim, InitLocal, InitShared, Birth, LocalDown, SeeZero}
use Rattle.law.specs.declared.world.event.Step.TheVariants.{Untie, MergeZero, MergeAdd, Ask, LastDown, Enqueue, Close}
use Rattle.law.specs.declared.world.event.Step.TheVariants.{Reopen, Offer, Register, Gather}
use Rattle.law.specs.declared.world.event.LastDropped.TheVariants as lasts
use Rattle.law.specs.declared.world.row.Row.{Row}
use Rattle.law.specs.declared.world.row.Hand.{Hand}
use Rattle.law.specs.declared.world.row.Hand.TheVariants as hands
use Rattle.law.specs.declared.world.row.Phase.TheVariants as phases
use Rattle.law.specs.world.Heap.{Heap, cell_at, row_at, no_row, new_row, again_row, opening_in, words_for, is_immortal}
use Rattle.law.specs.world.Heap.{AreOptions}
use Rattle.law.specs.world.Steps.{enabled, after, after_target, root_after, root_may, thread_may, target_at, registered}
use Rattle.law.specs.world.Steps.{registered_again, edition_ok, hand_ok, is_active, is_shut_hand, is_untouched}
use Rattle.law.specs.world.Steps.{is_default, is_shut, untied_hand, added_hand, hand_after, row_after, stage_after}
use Rattle.law.specs.world.Runs.{world_after, IsRun, IsReached}
use Rattle.law.specs.world.Sound.{IsSound}
use Rattle.law.proofs.world.Asking.{May, may_parts}
use Rattle.law.proofs.world.Changes.{read_by}
use Rattle.law.proofs.world.Lifetimes.{run_edition}
use Rattle.law.proofs.world.Naming.{free_hand}
use Rattle.law.proofs.world.Reached.{run_sound}
use Rattle.law.proofs.world.Registering.{read_push}
use Rattle.law.proofs.world.Reusing.{registers, fresh, reused}

-- ---- one row

fits_hand : Bool → Hand → Bool
fits_hand active hands.Free = true
fits_hand active (hands.Busy phases.Taking d) = false
fits_hand active (hands.Busy phases.Popping d) = active
fits_hand active (hands.Busy _ d) = true

row_fits : Row → Bool
row_fits row = fits_hand (is_active row.stage) row.hand

untied_fits : (active : Bool) (c : ℕ) (hand : Hand) → active ≡ true → is_shut_hand hand ≡ false
    → fits_hand active (untied_hand c hand) ≡ true
unfolding fits_hand
untied_fits active c hands.Free on off = on
untied_fits active c (hands.Busy phases.Shut d) on off = absurd (true≢false off)
untied_fits active c (hands.Busy phases.Offered d) on off = refl
untied_fits active c (hands.Busy _ d) on off = refl

added_fits : (active : Bool) (c : ℕ) (hand : Hand) → fits_hand active (added_hand c hand) ≡ true
unfolding fits_hand
added_fits active c hands.Free = refl
added_fits active c (hands.Busy phases.Taking d) = refl
added_fits active c (hands.Busy _ d) = refl

not_shut : (b : Bool) → not b ≡ true → b ≡ false
not_shut true is = absurd (true≢false (sym is))
not_shut false is = refl

step_fits : (s : Step) (c : ℕ) (x : Cell) (shut : Bool) (row : Row) → edition_ok editions.Two row s ≡ true
    → row_fits row ≡ true → row_fits (row_after s c x shut row) ≡ true
unfolding row_fits fits_hand
step_fits (Claim d) c x shut row ok fits = refl
step_fits (InitLocal d) c x shut row ok fits = refl
step_fits (InitShared d) c x shut row ok fits = refl
step_fits (Birth d kind k) c x shut row ok fits = refl
step_fits (MergeZero d) c x shut row ok fits = refl
step_fits (Offer d) c x shut row ok fits = refl
step_fits (LocalDown drop) c x shut row ok fits = by_count (not (is_immortal c) && (x.local == 1))
  where
    by_count : (b : Bool) → fits_hand (is_active row.stage) (if b then hands.Busy phases.Zero c else row.hand) ≡ true
    by_count true = refl
    by_count false = fits
step_fits (SeeZero d) c x shut row ok fits = by_count (is_untouched x)
  where
    by_count : (b : Bool) → fits_hand (is_active row.stage) (if b then hands.Free else hands.Busy phases.Over c) ≡ true
    by_count true = refl
    by_count false = refl
step_fits (Untie d) c x shut row ok fits =
    let parts = and_parts (is_active row.stage) (not (is_shut_hand row.hand)) ok in
    untied_fits (is_active row.stage) c row.hand parts.0 (not_shut (is_shut_hand row.hand) parts.1)
step_fits (MergeAdd d) c x shut row ok fits = added_fits (is_active row.stage) c row.hand
step_fits (Ask drop) c x shut row ok fits = by_state (is_default x.state)
  where
    by_state : (b : Bool) → fits_hand (is_active row.stage) (if b then hands.Busy phases.Asked c else row.hand) ≡ true
    by_state true = refl
    by_state false = fits
step_fits (Enqueue d) c x shut row ok fits = by_word shut
  where
    by_word : (b : Bool) → fits_hand (is_active row.stage) (if b then hands.Busy phases.Shut c else hands.Free) ≡ true
    by_word true = refl
    by_word false = refl
step_fits (LastDown lasts.Hand) c x shut row ok fits = refl
step_fits (LastDown (lasts.Dropped drop)) c x shut row ok fits = fits
step_fits (LastDown (lasts.Popped d)) c x shut row ok fits = fits
step_fits _ c x shut row ok fits = fits

-- a thread that begins or goes on to close, or to open, has nothing in its hand
kept_fits : (words : ℕ) (s : Step) (row : Row) → hand_ok row.hand s ≡ true → row_fits row ≡ true
    → row_fits (record row { stage = stage_after words s row.stage }) ≡ true
unfolding row_fits fits_hand
kept_fits words (Close k) row ok fits = ap (fits_hand (is_active (stage_after words (Close k) row.stage)))
    (free_hand row.hand ok)
kept_fits words (Reopen k) row ok fits = ap (fits_hand (is_active (stage_after words (Reopen k) row.stage)))
    (free_hand row.hand ok)
kept_fits words _ row ok fits = fits

-- ---- all rows, after each step

AllFit : Heap → Type 0
AllFit h = (t : ℕ) → row_fits (row_at h t) ≡ true

target_fits : (h : Heap) (t : ℕ) (s : Step) (o : Option ℕ) → May h t s → h.edition ≡ editions.Two → AllFit h
    → AllFit (after_target h t s o)
unfolding AllFit
target_fits h t s None may two fits = read_by (λ _ row. row_fits row ≡ true) h.rows t _ no_row may.inside
    (kept_fits (words_for (length h.cells)) s (row_at h t) may.hand (fits t)) (λ j _. fits j)
target_fits h t s (Some c) may two fits = read_by (λ _ row. row_fits row ≡ true) h.rows t _ no_row may.inside
    (step_fits s c (cell_at h c) (is_shut h c) (row_at h t)
    (subst (λ e. edition_ok e (row_at h t) s ≡ true) two may.edition) (fits t)) (λ j _. fits j)

root_fits : (h : Heap) (s : Step) → IsSound h → root_may h s ≡ true → AllFit h → AllFit (root_after h s)
unfolding AllFit row_fits fits_hand
root_fits h (Register u) sound ok fits = elim (registers h u sound ok) [
  | fresh next most few is ↦ subst AllFit (sym is) (read_push (λ _ row. row_fits row ≡ true) h.rows new_row no_row refl
      (λ j _. fits j))
  | reused vacated few is ↦ subst AllFit (sym is)
      (read_by (λ _ row. row_fits row ≡ true) h.rows u again_row no_row vacated.inside refl (λ j _. fits j))
]
root_fits h (Gather u) sound ok fits = fits
root_fits h _ sound ok fits = fits

event_fits : (h : Heap) (e : Event) → IsSound h → h.edition ≡ editions.Two → enabled h e ≡ true → AllFit h
    → AllFit (after h e)
event_fits h e sound two ok fits =
    let moved : Heap = after_target h e.thread e.step (target_at h e.thread e.step) in
    let P : Bool → Type 0 = λ b. (if b then root_may h e.step else thread_may h e.thread e.step) ≡ true
    → AllFit (if b then root_after h e.step else moved) in
    elim (cases_Bool (e.thread == 0)) [
      | inl root ↦ subst P (sym root) (λ may. root_fits h e.step sound may fits) ok
      | inr thread ↦ subst P (sym thread) (λ may. target_fits h e.thread e.step (target_at h e.thread e.step)
          (may_parts h e.thread e.step may) two fits) ok
    ]

run_fits : (cells limit : ℕ) (run : List Event) → AreOptions cells limit
    → IsRun (opening_in editions.Two cells limit) run → AllFit (world_after (opening_in editions.Two cells limit) run)
unfolding AllFit row_fits fits_hand
run_fits cells limit [] options is_run = opens
  where
    opens : (t : ℕ) → row_fits (row_at (opening_in editions.Two cells limit) t) ≡ true
    opens zero = refl
    opens (suc t) = refl
run_fits cells limit (e ∷ run) options is_run =
    let start : Heap = opening_in editions.Two cells limit in
    event_fits (world_after start run) e (run_sound editions.Two cells limit run options is_run.0)
    (run_edition start run) is_run.1 (run_fits cells limit run options is_run.0)

-- the edition that a world began in is its own
pub reached_edition : (h : Heap) (reached : IsReached h) → reached.edition ≡ h.edition
reached_edition h reached = sym (run_edition (opening_in reached.edition reached.cells reached.limit) reached.run)
    ∙ ap (λ (w : Heap). w.edition) reached.leads_here

reached_fits : (h : Heap) → IsReached h → h.edition ≡ editions.Two → AllFit h
reached_fits h reached two =
    let P : Edition → Type 0 = λ e. IsRun (opening_in e reached.cells reached.limit) reached.run
    → AllFit (world_after (opening_in e reached.cells reached.limit) reached.run) in
    subst AllFit reached.leads_here
    (subst P (sym (reached_edition h reached ∙ two)) (run_fits reached.cells reached.limit reached.run reached.options)
    reached.is_run)

-- ---- what it says of a hand

pub never_takes : (h : Heap) (t c : ℕ) → IsReached h → h.edition ≡ editions.Two
    → (row_at h t).hand ≢ hands.Busy phases.Taking c
unfolding AllFit row_fits fits_hand
never_takes h t c reached two busy = true≢false (sym (reached_fits h reached two t)
    ∙ ap (fits_hand (is_active (row_at h t).stage)) busy)

pub pops_active : (h : Heap) (t c : ℕ) → IsReached h → h.edition ≡ editions.Two
    → (row_at h t).hand ≡ hands.Busy phases.Popping c → is_active (row_at h t).stage ≡ true
unfolding AllFit row_fits fits_hand
pops_active h t c reached two busy = sym (ap (fits_hand (is_active (row_at h t).stage)) busy)
    ∙ reached_fits h reached two t
