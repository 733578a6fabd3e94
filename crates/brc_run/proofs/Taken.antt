-- How many threads the root has registered, and whose lives it has taken in, after one more.
use Rattle.std.proofs.Common.{◌≡◌, ◌+◌, ◌<◌, ◌≤◌, ◌++◌, ℕ, Bool, false, true, List, [], ◌∷◌, length, inl, inr, refl, sym}
use Rattle.std.proofs.Common.{◌∙◌, ap, arith}
use Rattle.std.proofs.lemmas.List.{append_assoc}
use Rattle.brc_words.specs.declared.fault.Fault.{Fault}
use Rattle.brc_words.specs.declared.fault.Fault.TheVariants as faults
use Rattle.brc_words.specs.declared.limits.TheConstants.{GLOBALS}
use Rattle.brc_count.specs.law.known.Items.{Item}
use Rattle.brc_count.specs.law.known.Items as logged
use Rattle.brc_count.specs.law.known.Root.{marks_of, marks_on, registrations_of, registrations_on}
use Rattle.brc_count.specs.law.world.Steps.{first_gathered}
use Rattle.std.proofs.lemmas.Bool.{cases_lt, lt-ltb, le-ltb}
use Rattle.std.proofs.lemmas.List.{length-set, length-append}
use Rattle.brc_count.specs.law.declared.world.event.Step.TheVariants.{Register, Gather}
use Rattle.brc_count.specs.law.declared.rule.view.View.{View}
use Rattle.brc_count.specs.law.rule.Logs.{log_items, entries_in}
use Rattle.brc_count.specs.law.steps.Joining.{next_thread, registering, gathering}
use Rattle.brc_count.specs.table.Seated.{RootSeen, view_of}
use Rattle.brc_count.specs.declared.ledger.Ledger.{Ledger}
use Rattle.brc_count.specs.Frames.{FrameSeen}
use Rattle.brc_thread.specs.Counting.{registrations}
use Rattle.brc_thread.specs.Retiring.{EndsThread}
use Rattle.brc_thread.specs.Threads.{RefusesThread}
use Rattle.brc_run.specs.Runs.{ThreadLife, RootTakesIn, LeavesNone, ClearsUp}
use Rattle.brc_run.proofs.Retired_Quietly.{retired_bears}

first_low : (xs : List Bool) → first_gathered xs ≤ length xs
first_low [] = omega arith
first_low (true ∷ xs) = omega arith
first_low (false ∷ xs) = omega (arith, first_low xs)

-- the next thread's number is at most that of registrations, and one
marks_few : (items : List Item) → length (marks_of items) ≤ registrations_of items + 1
marks_few [] = omega arith
marks_few (x ∷ items) = by_item x (marks_few items)
  where
    by_item : (x : Item) → length (marks_of items) ≤ registrations_of items + 1
        → length (marks_on x (marks_of items)) ≤ registrations_on x (registrations_of items) + 1
    by_item (logged.Stepped (Register u) number entries) few = elim (cases_lt u (length (marks_of items))) [
      | inl used ↦ rw (lt-ltb u (length (marks_of items)) used) (omega (
        arith,
        few,
        length-set (marks_of items) u false,
      ))
      | inr new ↦ rw (le-ltb u (length (marks_of items)) new) (omega (
        arith,
        few,
        length-append (marks_of items) (false ∷ []),
      ))
    ]
    by_item (logged.Stepped (Gather u) number entries) few = omega (arith, few, length-set (marks_of items) u true)
    by_item _ few = few

pub next_is : (v : View) → next_thread v ≤ registrations v + 1
next_is v = omega (arith, first_low (marks_of (log_items v.log)), marks_few (log_items v.log))

pub only_memory : (root : RootSeen) (fault : Fault) → registrations root.view < 64 → RefusesThread root fault
    → fault ≡ faults.OutOfMemory
only_memory root faults.TooManyThreads few refuses = absurd (elim refuses [
  | inl many ↦ omega (arith, next_is root.view, few, many)
  | inr all ↦ omega (arith, few, all)
])
only_memory root faults.OutOfMemory few refuses = refl
only_memory root _ few refuses = absurd refuses

registered : (v : View) → registrations (registering v) ≡ registrations v + 1
registered v = refl

not_registered : (v w : View) → registrations (gathering v w) ≡ registrations v
not_registered v w = refl

pub takes_none : (root : RootSeen) → RootTakesIn root root 0 []
takes_none root = record { same_table = refl; more_registered = omega arith; gathered = refl }

pub takes_registered : (old mid new : RootSeen) (r : ℕ) (lives : List ThreadLife) (more : ℕ)
    → RootTakesIn old mid r lives
    → new.view ≡ registering mid.view
    → new.table ≡ mid.table
    → more ≡ r + 1 → RootTakesIn old new more lives
takes_registered old mid new r lives more took view table next = record {
  same_table = table ∙ took.same_table;
  more_registered = omega (arith, ap registrations view, registered mid.view, took.more_registered, next);
  gathered = ap (λ (v : View). v.gathered) view ∙ took.gathered;
}

pub takes_gathered : (old mid new : RootSeen) (w : View) (r : ℕ) (lives more : List ThreadLife)
    → RootTakesIn old mid r lives
    → new.view ≡ gathering mid.view w → new.table ≡ mid.table
    → more ≡ (w.thread, w.log) ∷ lives → RootTakesIn old new r more
takes_gathered old mid new w r lives more took view table next = record {
  same_table = table ∙ took.same_table;
  more_registered = ap registrations view ∙ not_registered mid.view w ∙ took.more_registered;
  gathered = ap (λ (v : View). v.gathered) view ∙ ap
      (λ (later : List ThreadLife). (w.thread, w.log) ∷ later) took.gathered
      ∙ ap (λ (all : List ThreadLife). all ++ old.view.gathered) (sym next);
}

pub takes_both : (old mid new : RootSeen) (r : ℕ) (lives : List ThreadLife) (r' : ℕ) (later : List ThreadLife)
    (all_r : ℕ)
    (all : List ThreadLife) → RootTakesIn old mid r lives → RootTakesIn mid new r' later
    → all_r ≡ r + r' → all ≡ later ++ lives
    → RootTakesIn old new all_r all
takes_both old mid new r lives r' later all_r all first second rs is = record {
  same_table = second.same_table ∙ first.same_table;
  more_registered = omega (arith, first.more_registered, second.more_registered, rs);
  gathered = second.gathered ∙ ap (λ (before : List ThreadLife). later ++ before) first.gathered
      ∙ sym (append_assoc later lives old.view.gathered)
      ∙ ap (λ (taken : List ThreadLife). taken ++ old.view.gathered) (sym is);
}

pub one_registered : (old mid new : RootSeen) (n : ℕ) → RootTakesIn old mid n [] → RootTakesIn mid new 1 []
    → RootTakesIn old new (n + 1) []
one_registered old mid new n first second = takes_both old mid new n [] 1 [] (n + 1) [] first second refl refl

-- a thread is registered, leaves no entry in the globals, and is gathered
pub clears_up : {A : Type 0} (old mid new : RootSeen) (mutator : FrameSeen A) (ledger : Ledger)
    → mid.view ≡ registering old.view
    → mid.table ≡ old.table → LeavesNone mutator.seat.log → EndsThread mutator mid new ledger
    → new.table ≡ mid.table → ClearsUp old new
clears_up old mid new mutator ledger view table none ends same = record {
  thread = view_of ends.retired.seat;
  did = ends.gathers ∙ ap (λ (v : View). gathering v (view_of ends.retired.seat)) view;
  same_table = same ∙ table;
  none = λ before. ap entries_in ((retired_bears mutator ends.retired ends.retires).puts GLOBALS before) ∙ none before;
}
