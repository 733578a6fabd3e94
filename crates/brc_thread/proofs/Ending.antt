-- What is so where a heap ends.
use Rattle.std.proofs.Common.{◌≡◌, ◌+◌, ℕ, true, List, length, Option, refl, sym, subst, ap, ◌∙◌, arith}
use Rattle.std.specs.Prelude.{sum_by}
use Rattle.brc_count.specs.block.declared.payload.Payload.{Payload}
use Rattle.brc_count.specs.law.known.Items.{AreItems, IsPart, part_of, events_of, own}
use Rattle.brc_count.specs.law.known.Start.{start_of}
use Rattle.brc_count.specs.law.known.Root.{rows_of, registrations_of, gathered_of}
use Rattle.brc_count.proofs.law.known.Starting.{run_histories}
use Rattle.brc_count.proofs.law.known.Root_Law.{rows_are_told, registrations_are_told, gathered_are_told}
use Rattle.brc_count.proofs.law.known.Items_Runs.{events_run}
use Rattle.brc_count.proofs.law.known.Items_Law.{parts_are_told}
use Rattle.brc_count.specs.law.declared.rule.view.View.{View}
use Rattle.brc_count.specs.law.rule.Logs.{Run, items_of, log_items, own_of, lives_of, world}
use Rattle.brc_count.specs.law.rule.Seen.{part_seen}
use Rattle.brc_count.proofs.law.rule.Own_Logs.{own_items}
use Rattle.brc_count.proofs.law.rule.Knowing.{kept_reached, kept_headline}
use Rattle.brc_count.proofs.law.rule.Once.{root_once}
use Rattle.brc_count.specs.law.world.Heap.{AreOptions, row_at, no_row, is_registered}
use Rattle.brc_count.specs.law.declared.world.row.Row.{Row}
use Rattle.brc_count.specs.table.Rest.{Remains}
use Rattle.brc_count.specs.table.Shown.{shows}
use Rattle.brc_thread.specs.Threads.{ledger_of}
use Rattle.brc_thread.specs.Ending.{IsLastState, ledger_at}
use Rattle.brc_thread.specs.Counting.{bears, frees, registrations, gatherings, births_of_all, frees_of_all}
use Rattle.brc_thread.specs.Emptied.{AllGathered}
use Rattle.brc_thread.proofs.At_Home.{root_rests, all_at_home}
use Rattle.brc_thread.proofs.Counted.{births_told, frees_told}
use Rattle.brc_thread.proofs.Everyone.{everyone, all_added_up, counts_allocs, counts_frees}

-- a registered thread's part of a run's world is what its own steps tell
pub own_part : (n limit : ℕ) (run : Run) (t : ℕ) → AreOptions n limit → AreItems (start_of n limit) (items_of run)
    → is_registered (world n limit run) t ≡ true
    → IsPart (world n limit run) t (part_seen n (own_of t run))
own_part n limit run t options items registered =
    subst (λ told. IsPart (world n limit run) t (part_of n told)) (own_items t run)
    (parts_are_told n limit (items_of run) t options items registered)

-- so is what that world counts for it
own_ledger : (n limit : ℕ) (run : Run) (t : ℕ) → AreOptions n limit → AreItems (start_of n limit) (items_of run)
    → is_registered (world n limit run) t ≡ true
    → ledger_at (world n limit run) t ≡ ledger_of n (own_of t run)
own_ledger n limit run t options items registered =
    ap (λ (row : Row). record { allocs = row.allocs; frees = row.frees })
    (own_part n limit run t options items registered).row_is

-- for the root it counts nothing
root_ledger : (n limit : ℕ) (run : Run) → AreOptions n limit → AreItems (start_of n limit) (items_of run)
    → ledger_at (world n limit run) 0 ≡ record { allocs = 0; frees = 0 }
root_ledger n limit run options items =
    ap (λ (row : Row). record { allocs = row.allocs; frees = row.frees })
    (root_rests n limit (events_of (items_of run)) options (events_run (start_of n limit) (items_of run) items)).row

-- ---- as many as were registered

all_of_them : (n limit : ℕ) (run : Run) (root : View) → AreOptions n limit → AreItems (start_of n limit) (items_of run)
    → root.gathered ≡ lives_of run
    → (world n limit run).registrations ≡ registrations root → registrations root ≡ gatherings root
    → AllGathered (world n limit run)
all_of_them n limit run root options items lives all same =
    everyone n limit run options items (omega (arith, all, same, ap length lives))

-- what the logs count is what the world counts
module _ (n limit : ℕ) (run : Run) (root : View) (options : AreOptions n limit)
    (items : AreItems (start_of n limit) (items_of run)) where
  no_row_there : row_at (world n limit run) 0 ≡ no_row
  no_row_there = (root_rests n limit (events_of (items_of run)) options
      (events_run (start_of n limit) (items_of run) items)).row

  births_added : root.gathered ≡ lives_of run → AllGathered (world n limit run)
      → births_of_all root.gathered
      ≡ (world n limit run).past_allocs + sum_by (λ (row : Row). row.allocs) (world n limit run).rows
  births_added lives all =
      ap births_of_all lives
      ∙ sym (all_added_up n limit run options items (λ (row : Row). row.allocs) (sum_by bears) (λ h. h.past_allocs)
      counts_allocs refl refl no_row_there
      (λ older u are there. ap (λ (row : Row). row.allocs) (own_part n limit older u options are there).row_is
      ∙ births_told n (own_of u older)) all)

  frees_added : root.gathered ≡ lives_of run → AllGathered (world n limit run)
      → frees_of_all root.gathered
      ≡ (world n limit run).past_frees + sum_by (λ (row : Row). row.frees) (world n limit run).rows
  frees_added lives all =
      ap frees_of_all lives
      ∙ sym (all_added_up n limit run options items (λ (row : Row). row.frees) (sum_by frees) (λ h. h.past_frees)
      counts_frees refl refl no_row_there
      (λ older u are there. ap (λ (row : Row). row.frees) (own_part n limit older u options are there).row_is
      ∙ frees_told n (own_of u older)) all)

module _ {A : Type 0} where
  pub ends_so : (n limit id : ℕ) (root : View) (slots : List (Option (ℕ × Payload A))) → root.active ≡ true
      → root.thread ≡ 0
      → Remains n limit id root slots → IsLastState n limit id root slots
  ends_so n limit id root slots active is_root remains =
      let run = remains.kept.run in
      let fits = remains.kept.each_seat id root remains.seen active in
      let did : own_of 0 run ≡ root.log = subst (λ t. own_of t run ≡ root.log) is_root fits.log in
      let log : own 0 (items_of run) ≡ log_items root.log = own_items 0 run ∙ ap log_items did in
      let lives : root.gathered ≡ lives_of run = fits.lives is_root in
      let all : (world n limit run).registrations ≡ registrations root =
      registrations_are_told n limit (items_of run) remains.kept.options remains.kept.legal.items
      ∙ ap registrations_of log in
      let told = run_histories n limit (events_of (items_of run)) remains.kept.options
      (events_run (start_of n limit) (items_of run) remains.kept.legal.items) in record {
        remains = remains;
        reached = kept_reached shows n limit remains.state remains.kept;
        headline = kept_headline shows n limit remains.state remains.kept;
        histories = told;
        root_did = did;
        gathered_did = λ t some gathered. fits.gathered is_root t some gathered;
        root_once = root_once n limit run remains.kept.options remains.kept.legal.items;
        lives_did = lives;
        each_once = remains.kept.each_once;
        root_counts = root_ledger n limit run remains.kept.options remains.kept.legal.items;
        ledgers = λ t registered. own_ledger n limit run t remains.kept.options remains.kept.legal.items registered;
        registered = all;
        rows = rows_are_told n limit (items_of run) remains.kept.options remains.kept.legal.items ∙ ap rows_of log;
        gathered = λ t. gathered_are_told n limit (items_of run) t remains.kept.options remains.kept.legal.items
            ∙ ap (λ items. gathered_of items t) log;
        all_at_home = all_at_home n limit id root slots remains;
        everyone = all_of_them n limit run root remains.kept.options remains.kept.legal.items lives all;
        births = births_added n limit run root remains.kept.options remains.kept.legal.items lives;
        frees = frees_added n limit run root remains.kept.options remains.kept.legal.items lives;
      }
