-- Ledgers since a number was last registered, told by the run alone, in either edition.
use Rattle.std.proofs.Common.{◌≡◌, ◌≢◌, ℕ, ◌+◌, ◌<◌, ◌==◌, ◌&&◌, Bool, true, false, if◌then◌else◌, List, [], ◌∷◌}
use Rattle.std.proofs.Common.{length, Option, refl, sym, ◌∙◌, ap, subst, inl, inr, arith, sum_by, Some, None}
use Rattle.std.proofs.lemmas.List.{get_or_past}
use Rattle.std.proofs.lemmas.List.Sums.{sum_by_push, sum_by-set}
use Rattle.std.proofs.lemmas.Bool.{cases_eq, eq-eqb, ne_eqb, and_right, or_parts, true≢false}
use Rattle.law.specs.declared.world.edition.Edition.{Edition}
use Rattle.law.specs.declared.world.event.Event.{Event}
use Rattle.law.specs.declared.world.event.Step.{Step}
use Rattle.law.specs.declared.world.event.Step.TheVariants.{Register, Gather}
use Rattle.law.specs.declared.world.cell.Cell.{Cell}
use Rattle.law.specs.declared.world.row.Row.{Row}
use Rattle.law.specs.declared.world.row.Stage.{Stage}
use Rattle.law.specs.world.Lists.{one}
use Rattle.law.specs.world.Heap.{Heap, cell_at, words_for, row_at, no_row, new_row, again_row, opening_in, AreOptions}
use Rattle.law.specs.world.Steps.{enabled, after, after_target, root_after, root_may, target_at, target_ok}
use Rattle.law.specs.world.Steps.{is_free_step, needs_no_cell, row_after, stage_after, is_shut, registered}
use Rattle.law.specs.world.Steps.{registered_again, gathered_in}
use Rattle.law.specs.world.Runs.{IsRun, world_after}
use Rattle.law.specs.world.Holding.{is_birth, lives_since}
use Rattle.law.specs.world.Since.{registers_number, counted_since, steps_since, HistoriesSince}
use Rattle.law.specs.world.Sound.{IsSound}
use Rattle.law.proofs.world.Asking.{May, may_parts}
use Rattle.law.proofs.world.Changes.{read_by}
use Rattle.law.proofs.world.Registering.{read_push}
use Rattle.law.proofs.world.Reusing.{fresh, reused, registers}
use Rattle.law.proofs.world.Lifetimes.{Turns, by_whom, root_step, counted_step, no_cell_step, allocs_step, frees_step}
use Rattle.law.proofs.world.Lifetimes.{event_turns, event_dies}
use Rattle.law.proofs.world.Reached.{run_sound, opening_lives}

-- the root's step begins a count again, or changes none
by_root : (f : Row → ℕ) (h : Heap) (s : Step) (q : ℕ) → IsSound h → root_may h s ≡ true → f new_row ≡ 0
    → f again_row ≡ 0
    → f (row_at (root_after h s) q) ≡ counted_since (registers_number q s) (f (row_at h q)) 0
by_root f h (Register u) q sound ok new again = elim (registers h u sound ok) [
  | fresh next most few is ↦ ap (λ w. f (row_at w q)) is
      ∙ read_push (λ j (row : Row). f row ≡ counted_since (u == j) (f (row_at h j)) 0) h.rows new_row no_row
      (new ∙ sym (ap (λ b. counted_since b (f (row_at h (length h.rows))) 0) (eq-eqb u (length h.rows) next)))
      (λ j other. omega (
        arith,
        ap (λ b. counted_since b (f (row_at h j)) 0)
            (ne_eqb u j (λ e. other (sym e ∙ next))),
      )) q
  | reused v few is ↦ ap (λ w. f (row_at w q)) is
      ∙ read_by (λ j (row : Row). f row ≡ counted_since (u == j) (f (row_at h j)) 0) h.rows u again_row no_row v.inside
      (again ∙ sym (ap (λ b. counted_since b (f (row_at h u)) 0) (eq-eqb u u refl)))
      (λ j other. omega (arith, ap (λ b. counted_since b (f (row_at h j)) 0) (ne_eqb u j (λ e. other (sym e))))) q
]
by_root f h (Gather u) q sound ok new again = omega arith
by_root f h _ q sound ok new again = absurd (true≢false (sym ok))

-- one event
event_counted : (f : Row → ℕ) (counts : Step → Bool) (h : Heap) (e : Event) (q : ℕ) → IsSound h → enabled h e ≡ true
    → f new_row ≡ 0 → f again_row ≡ 0
    → (root_may h e.step ≡ true → counts e.step ≡ false)
    → ((may : May h e.thread e.step) → f (row_at (after h e) q) ≡ f (row_at h q) + one
    ((e.thread == q) && counts e.step))
    → f (row_at (after h e) q) ≡ counted_since ((e.thread == 0) && registers_number q e.step) (f (row_at h q))
    (one ((e.thread == q) && counts e.step))
event_counted f counts h e q sound ok new again never more = elim (by_whom h e ok) [
  | inl root ↦ ap (λ w. f (row_at w q)) root.leads ∙ by_root f h e.step q sound root.may new again
      ∙ sym (ap (λ b. counted_since (b && registers_number q e.step) (f (row_at h q))
      (one ((e.thread == q) && counts e.step))) (eq-eqb e.thread 0 root.root)
      ∙ ap (λ m. counted_since (registers_number q e.step) (f (row_at h q)) m)
      (ap one (and_right (e.thread == q) (counts e.step) (never root.may))))
  | inr thread ↦
      let may : May h e.thread e.step = may_parts h e.thread e.step thread.may in
      let apart : (e.thread == 0) ≡ false = ne_eqb e.thread 0 (λ is. omega (arith, is, may.some_thread)) in
      more may ∙ sym (ap (λ b. counted_since (b && registers_number q e.step) (f (row_at h q))
      (one ((e.thread == q) && counts e.step))) apart)
]

-- ---- all rows together, with those of numbers that were used before

module _ (f : Row → ℕ) (past : Heap → ℕ) (counts : Step → Bool) where
  -- f is a number of a ledger, which the steps that count raise, and past has it of the rows that were used before
  record IsLedger : Type 0 where
    new : f new_row ≡ 0
    again : f again_row ≡ 0
    staged : (row : Row) (stage : Stage) → f (record row { stage = stage }) ≡ f row
    counted : (s : Step) (c : ℕ) (x : Cell) (shut : Bool) (row : Row) → f (row_after s c x shut row) ≡ f row + one
        (counts s)
    apart : (s : Step) → needs_no_cell s ≡ true → counts s ≡ false
    roots : (h : Heap) (s : Step) → root_may h s ≡ true → counts s ≡ false
    past_stays : (h : Heap) (t : ℕ) (s : Step) (o : Option ℕ) → past (after_target h t s o) ≡ past h
    past_fresh : (h : Heap) → past (registered h) ≡ past h
    past_more : (h : Heap) (u : ℕ) → past (registered_again h u) ≡ past h + f (row_at h u)
    past_gathered : (h : Heap) (u : ℕ) → past (gathered_in h u) ≡ past h

  abbrev total : Heap → ℕ
  total h = sum_by f h.rows + past h

  target_total : IsLedger → (h : Heap) (t : ℕ) (s : Step) (o : Option ℕ) → t < length h.rows
      → target_ok h t (row_at h t) s o ≡ true → total (after_target h t s o) ≡ total h + one (counts s)
  target_total l h t s None inside ok = omega (
    arith,
    sum_by-set f h.rows t (record (row_at h t) {
      stage = stage_after (words_for (length h.cells)) s
          (row_at h t).stage;
    }) no_row inside,
    l.staged (row_at h t) (stage_after (words_for (length h.cells)) s (row_at h t).stage),
    ap one (l.apart s ok),
    l.past_stays h t s None,
  )
  target_total l h t s (Some c) inside ok = omega (
    arith,
    sum_by-set f h.rows t (row_after s c (cell_at h c) (is_shut h c) (row_at h t)) no_row inside,
    l.counted s c (cell_at h c) (is_shut h c) (row_at h t),
    l.past_stays h t s (Some c),
  )

  root_total : IsLedger → (h : Heap) (s : Step) → IsSound h → root_may h s ≡ true → total (root_after h s) ≡ total h
  root_total l h (Register u) sound ok = elim (registers h u sound ok) [
    | fresh next most few is ↦ ap total is ∙ omega (arith, sum_by_push f h.rows new_row, l.new, l.past_fresh h)
    | reused v few is ↦ ap total is
        ∙ omega (arith, sum_by-set f h.rows u again_row no_row v.inside, l.again, l.past_more h u)
  ]
  root_total l h (Gather u) sound ok = ap (λ n. sum_by f h.rows + n) (l.past_gathered h u)
  root_total l h _ sound ok = absurd (true≢false (sym ok))

  event_total : IsLedger → (h : Heap) (e : Event) → IsSound h → enabled h e ≡ true
      → total (after h e) ≡ total h + one (counts e.step)
  event_total l h e sound ok = elim (by_whom h e ok) [
    | inl root ↦ ap total root.leads
        ∙ omega (arith, root_total l h e.step sound root.may, ap one (l.roots h e.step root.may))
    | inr thread ↦
        let may : May h e.thread e.step = may_parts h e.thread e.step thread.may in
        ap total thread.leads ∙ target_total l h e.thread e.step (target_at h e.thread e.step) may.inside may.on_target
  ]

past_allocs_stay : (h : Heap) (t : ℕ) (s : Step) (o : Option ℕ) → (after_target h t s o).past_allocs ≡ h.past_allocs
past_allocs_stay h t s None = refl
past_allocs_stay h t s (Some c) = refl

past_frees_stay : (h : Heap) (t : ℕ) (s : Step) (o : Option ℕ) → (after_target h t s o).past_frees ≡ h.past_frees
past_frees_stay h t s None = refl
past_frees_stay h t s (Some c) = refl

births_counted : IsLedger (λ row. row.allocs) (λ h. h.past_allocs) is_birth
births_counted = record {
  new = refl;
  again = refl;
  staged = λ row stage. refl;
  counted = λ s c x shut row. allocs_step s row.allocs;
  apart = λ s none. (or_parts (is_birth s) (is_free_step s) (no_cell_step s none)).0;
  roots = λ h s may. (or_parts (is_birth s) (is_free_step s) (root_step h s may)).0;
  past_stays = past_allocs_stay;
  past_fresh = λ h. refl;
  past_more = λ h u. refl;
  past_gathered = λ h u. refl;
}

frees_counted : IsLedger (λ row. row.frees) (λ h. h.past_frees) is_free_step
frees_counted = record {
  new = refl;
  again = refl;
  staged = λ row stage. refl;
  counted = λ s c x shut row. frees_step s row.frees;
  apart = λ s none. (or_parts (is_birth s) (is_free_step s) (no_cell_step s none)).1;
  roots = λ h s may. (or_parts (is_birth s) (is_free_step s) (root_step h s may)).1;
  past_stays = past_frees_stay;
  past_fresh = λ h. refl;
  past_more = λ h u. refl;
  past_gathered = λ h u. refl;
}

-- ---- the law

pub run_histories_since : (edition : Edition) (cells limit : ℕ) (run : List Event) → AreOptions cells limit
    → IsRun (opening_in edition cells limit) run → HistoriesSince (opening_in edition cells limit) run
run_histories_since edition cells limit [] options is_run = record {
  lives = opening_lives cells limit;
  allocs = λ t. ap (λ (row : Row). row.allocs) (opened t);
  frees = λ t. ap (λ (row : Row). row.frees) (opened t);
  all_allocs = refl;
  all_frees = refl;
  deaths = tt;
}
  where
    opened : (t : ℕ) → row_at (opening_in edition cells limit) t ≡ no_row
    opened t = elim (cases_eq t 0) [
      | inl root ↦ ap (row_at (opening_in edition cells limit)) root
      | inr other ↦ get_or_past (no_row ∷ []) t no_row (omega (arith, other))
    ]
run_histories_since edition cells limit (e ∷ run) options is_run =
    let h : Heap = world_after (opening_in edition cells limit) run in
    let before : HistoriesSince (opening_in edition cells limit) run = run_histories_since edition cells limit run
    options is_run.0 in
    let sound : IsSound h = run_sound edition cells limit run options is_run.0 in
    let turns : Turns h e = event_turns h e sound is_run.1 in
    let o : Option ℕ = target_at h e.thread e.step in
    let plain : root_may h e.step ≡ true → (is_birth e.step ≡ false) × (is_free_step e.step ≡ false) =
    λ may. or_parts (is_birth e.step) (is_free_step e.step) (root_step h e.step may) in
    record {
      lives = λ q. turns.lives q ∙ ap (lives_since e.step q) (before.lives q);
      allocs = λ q. event_counted (λ (r : Row). r.allocs) is_birth h e q sound is_run.1 refl refl (λ may. (plain may).0)
          (stepped_allocs h e q is_run.1)
          ∙ ap (λ n. counted_since ((e.thread == 0) && registers_number q e.step) n
          (one ((e.thread == q) && is_birth e.step))) (before.allocs q);
      frees = λ q. event_counted (λ (r : Row). r.frees) is_free_step h e q sound is_run.1 refl refl
          (λ may. (plain may).1) (stepped_frees h e q is_run.1)
          ∙ ap (λ n. counted_since ((e.thread == 0) && registers_number q e.step) n
          (one ((e.thread == q) && is_free_step e.step))) (before.frees q);
      all_allocs = event_total (λ (r : Row). r.allocs) (λ (w : Heap). w.past_allocs) is_birth births_counted h e sound
          is_run.1 ∙ ap (λ n. n + one (is_birth e.step)) before.all_allocs;
      all_frees = event_total (λ (r : Row). r.frees) (λ (w : Heap). w.past_frees) is_free_step frees_counted h e sound
          is_run.1 ∙ ap (λ n. n + one (is_free_step e.step)) before.all_frees;
      deaths = (before.deaths, event_dies h e run sound before.lives is_run.1);
    }
  where
    leads : (h : Heap) (e : Event) → May h e.thread e.step → after h e ≡ after_target h e.thread e.step
        (target_at h e.thread e.step)
    leads h e may = ap (λ b. if b then root_after h e.step else after_target h e.thread e.step
        (target_at h e.thread e.step)) (ne_eqb e.thread 0 (λ is. omega (arith, is, may.some_thread)))

    stepped_allocs : (h : Heap) (e : Event) (q : ℕ) → enabled h e ≡ true → (may : May h e.thread e.step)
        → (row_at (after h e) q).allocs ≡ (row_at h q).allocs + one ((e.thread == q) && is_birth e.step)
    stepped_allocs h e q ok may = ap (λ w. (row_at w q).allocs) (leads h e may)
        ∙ counted_step (λ (r : Row). r.allocs) is_birth h e.thread e.step (target_at h e.thread e.step) q may.inside
        (λ c x shut row. allocs_step e.step row.allocs) (λ row stage. refl)
        (λ none. (or_parts (is_birth e.step) (is_free_step e.step) (no_cell_step e.step none)).0) may.on_target

    stepped_frees : (h : Heap) (e : Event) (q : ℕ) → enabled h e ≡ true → (may : May h e.thread e.step)
        → (row_at (after h e) q).frees ≡ (row_at h q).frees + one ((e.thread == q) && is_free_step e.step)
    stepped_frees h e q ok may = ap (λ w. (row_at w q).frees) (leads h e may)
        ∙ counted_step (λ (r : Row). r.frees) is_free_step h e.thread e.step (target_at h e.thread e.step) q may.inside
        (λ c x shut row. frees_step e.step row.frees) (λ row stage. refl)
        (λ none. (or_parts (is_birth e.step) (is_free_step e.step) (no_cell_step e.step none)).1) may.on_target
