-- What holds of every world that a run reaches: the laws that the rooms above cite.
use Rattle.std.proofs.Common.{◌≡◌, ℕ, ◌+◌, ◌<◌, ◌^◌, ◌==◌, ◌&&◌, not, Bool, true, false, if◌then◌else◌, nat_le, List}
use Rattle.std.proofs.Common.{[], ◌∷◌, zero, suc, length, refl, sym, ◌∙◌, ap, subst, inl, inr, arith}
use Rattle.std.proofs.lemmas.List.Sums.{sum_by-cons}
use Rattle.std.proofs.lemmas.Bool.{cases_Bool, cases_lt, and_parts, eqb-true, leb-true, le-ltb, lt-ltb}
use Rattle.brc_words.specs.declared.limits.TheConstants.{FIRST_MORTAL, MOST_THREADS}
use Rattle.law.specs.declared.world.cell.Cell.{Cell}
use Rattle.law.specs.declared.world.edition.Edition.{Edition}
use Rattle.law.specs.declared.world.edition.Edition.TheVariants as editions
use Rattle.law.specs.declared.world.event.Event.{Event}
use Rattle.law.specs.declared.world.event.Step.{Step}
use Rattle.law.specs.declared.world.event.Step.TheVariants.{Register, Gather}
use Rattle.law.specs.declared.world.row.Row.{Row}
use Rattle.law.specs.world.Lists.{one}
use Rattle.law.specs.world.Heap.{Heap, opening, opening_in, cell_at, row_at, no_row, AreOptions}
use Rattle.law.specs.world.Steps.{enabled, after, after_target, root_after, root_may, thread_may, target_at}
use Rattle.law.specs.world.Runs.{IsRun, IsReached, world_after}
use Rattle.law.specs.world.Holding.{Headline, Histories, lives, lives_at, lives_since, is_birth, births_by, frees_by}
use Rattle.law.specs.world.Steps.{is_free_step}
use Rattle.law.specs.world.Sound.{IsSound}
use Rattle.law.proofs.world.Beginning.{opening_sound, free_cell}
use Rattle.law.proofs.world.Reusing.{register_sound}
use Rattle.law.proofs.world.Resting.{gathered_sound}
use Rattle.law.proofs.world.Preserving.{step_sound}
use Rattle.law.proofs.world.Headlines.{sound_headline, allocs_fit, frees_fit}
use Rattle.law.proofs.world.Lifetimes.{Turns, root_idle, event_turns, event_dies, run_edition}

-- ---- every reached world is sound

-- the root's steps
root_sound : (h : Heap) (s : Step) → IsSound h → root_may h s ≡ true → IsSound (root_after h s)
root_sound h (Register u) sound ok = register_sound h u sound ok
root_sound h (Gather u) sound ok = gathered_sound h u sound ok
root_sound h _ sound ok = sound

pub event_sound : (h : Heap) (e : Event) → IsSound h → enabled h e ≡ true → IsSound (after h e)
event_sound h e sound ok =
    let moved : Heap = after_target h e.thread e.step (target_at h e.thread e.step) in
    elim (cases_Bool (e.thread == 0)) [
      | inl root ↦ subst (λ b. IsSound (if b then root_after h e.step else moved)) (sym root)
          (root_sound h e.step sound
          (subst (λ b. (if b then root_may h e.step else thread_may h e.thread e.step) ≡ true) root ok))
      | inr thread ↦ subst (λ b. IsSound (if b then root_after h e.step else moved)) (sym thread)
          (step_sound h e.thread e.step sound
          (subst (λ b. (if b then root_may h e.step else thread_may h e.thread e.step) ≡ true) thread ok))
    ]

pub run_sound : (edition : Edition) (cells limit : ℕ) (run : List Event) → AreOptions cells limit
    → IsRun (opening_in edition cells limit) run → IsSound (world_after (opening_in edition cells limit) run)
run_sound edition cells limit [] options is_run = opening_sound edition cells limit options
run_sound edition cells limit (e ∷ run) options is_run =
    event_sound (world_after (opening_in edition cells limit) run) e
    (run_sound edition cells limit run options is_run.0) is_run.1

pub reached_sound : (h : Heap) → IsReached h → IsSound h
reached_sound h reached = subst IsSound reached.leads_here
    (run_sound reached.edition reached.cells reached.limit reached.run reached.options reached.is_run)

-- ---- the laws

-- counts are references, nothing is lost, and the ledger is exact
pub reached_headline : (h : Heap) → IsReached h → Headline h
reached_headline h reached = sound_headline h (reached_sound h reached)

-- in the opening world no mortal object lives
pub opening_lives : (cells limit q : ℕ) → lives_at (opening cells limit) q ≡ false
opening_lives cells limit q = elim (cases_lt q FIRST_MORTAL) [
  | inl low ↦ ap (λ b. not b && lives (cell_at (opening cells limit) q).owner) (lt-ltb q FIRST_MORTAL low)
  | inr high ↦ ap (λ b. not b && lives (cell_at (opening cells limit) q).owner) (le-ltb q FIRST_MORTAL high)
      ∙ ap (λ (x : Cell). lives x.owner) (free_cell cells q high)
]

opening_row : (cells limit t : ℕ) → row_at (opening cells limit) t ≡ no_row
opening_row cells limit zero = refl
opening_row cells limit (suc t) = refl

-- lives and ledgers are what the run says
pub run_histories : (cells limit : ℕ) (run : List Event) → AreOptions cells limit → IsRun (opening cells limit) run
    → Histories (opening cells limit) run
run_histories cells limit [] options is_run = record {
  lives = opening_lives cells limit;
  allocs = λ t. ap (λ (row : Row). row.allocs) (opening_row cells limit t);
  frees = λ t. ap (λ (row : Row). row.frees) (opening_row cells limit t);
  deaths = tt;
}
run_histories cells limit (e ∷ run) options is_run =
    let h : Heap = world_after (opening cells limit) run in
    let before : Histories (opening cells limit) run = run_histories cells limit run options is_run.0 in
    let sound : IsSound h = run_sound editions.One cells limit run options is_run.0 in
    let turns : Turns h e = event_turns h e sound is_run.1 in
    let first : h.edition ≡ editions.One = run_edition (opening cells limit) run in
    record {
      lives = λ q. turns.lives q ∙ ap (lives_since e.step q) (before.lives q);
      allocs = λ q. turns.allocs first q
          ∙ omega (
            arith,
            before.allocs q,
            sum_by-cons (λ (x : Event). if (x.thread == q) && is_birth x.step then 1 else 0) e run,
            one_is ((e.thread == q) && is_birth e.step),
          );
      frees = λ q. turns.frees first q
          ∙ omega (
            arith,
            before.frees q,
            sum_by-cons (λ (x : Event). if (x.thread == q) && is_free_step x.step then 1 else 0) e run,
            one_is ((e.thread == q) && is_free_step e.step),
          );
      deaths = (before.deaths, event_dies h e run sound before.lives is_run.1);
    }
  where
    one_is : (b : Bool) → one b ≡ (if b then 1 else 0)
    one_is true = refl
    one_is false = refl

-- the root bears and frees nothing
pub root_counts_nothing : (start : Heap) (run : List Event) → IsRun start run
    → (births_by 0 run ≡ 0) × (frees_by 0 run ≡ 0)
root_counts_nothing start [] is_run = (refl, refl)
root_counts_nothing start (e ∷ run) is_run =
    let before = root_counts_nothing start run is_run.0 in
    let idle = root_idle (world_after start run) e is_run.1 in (
      omega (
        arith,
        before.0,
        sum_by-cons (λ (x : Event). if (x.thread == 0) && is_birth x.step then 1 else 0) e run,
        ap {B = ℕ} (λ b. if b then 1 else 0) idle.0,
      ),
      omega (
        arith,
        before.1,
        sum_by-cons (λ (x : Event). if (x.thread == 0) && is_free_step x.step then 1 else 0) e
            run,
        ap {B = ℕ} (λ b. if b then 1 else 0) idle.1,
      ),
    )

-- one more birth and one more free can be counted
pub reached_allocs : (h : Heap) → IsReached h → (t : ℕ) → (row_at h t).allocs + 1 < 2 ^ 64
reached_allocs h reached t = allocs_fit h (reached_sound h reached) t

pub reached_frees : (h : Heap) → IsReached h → (t : ℕ) → (row_at h t).frees + 1 < 2 ^ 64
reached_frees h reached t = frees_fit h (reached_sound h reached) t
