-- What a thread's part of the world counts is what its log counts, and what a root counts when it gathers it.
use Rattle.std.proofs.Common.{◌≡◌, ◌<◌, ℕ, ◌+◌, false, List, [], ◌∷◌, Option, Some, None, refl, sym, ◌∙◌, ap}
use Rattle.std.proofs.Common.{arith}
use Rattle.std.specs.Prelude.{min, sum_by}
use Rattle.std.proofs.lemmas.List.Sums.{sum_by-cons}
use Rattle.brc_words.specs.declared.limits.TheConstants.{MOST_REGISTRATIONS}
use Rattle.brc_count.specs.law.world.Lists.{one}
use Rattle.brc_count.specs.law.world.Holding.{is_birth}
use Rattle.brc_count.specs.law.world.Steps.{is_free_step, allocs_after, frees_after}
use Rattle.brc_count.specs.law.declared.world.event.Step.{Step}
use Rattle.brc_count.specs.law.declared.world.event.Step.TheVariants.{Birth, Free}
use Rattle.brc_count.specs.law.known.Items.{Part, part_by, meant}
use Rattle.brc_count.specs.law.declared.rule.told.LogItem.{LogItem}
use Rattle.brc_count.specs.law.declared.rule.told.LogItem.TheVariants.{Stepped, Loaded, Lost}
use Rattle.brc_count.specs.law.rule.Logs.{entries_found}
use Rattle.brc_count.specs.law.rule.Seen.{part_seen}
use Rattle.brc_count.specs.law.declared.rule.view.View.{View}
use Rattle.brc_count.specs.law.steps.Joining.{registering, gathering}
use Rattle.brc_count.specs.declared.ledger.Ledger.{Ledger}
use Rattle.brc_thread.specs.Threads.{ledger_of}
use Rattle.brc_thread.specs.Counting.{bears, frees, registrations, gatherings, births_of_all, frees_of_all}
use Rattle.brc_thread.specs.Counting.{in_u32, in_u64, Counts}

allocs_step : (s : Step) (n : ℕ) → allocs_after s n ≡ n + one (is_birth s)
allocs_step (Birth c kind k) n = refl
allocs_step _ n = omega arith

frees_step : (s : Step) (n : ℕ) → frees_after s n ≡ n + one (is_free_step s)
frees_step (Free c) n = refl
frees_step _ n = omega arith

-- a step that means no cell bears none and gives none back
apart_bears : (part : Part) (s : Step) → meant part s ≡ None → is_birth s ≡ false
apart_bears part (Birth c kind k) none = cc
apart_bears part _ none = refl

apart_frees : (part : Part) (s : Step) → meant part s ≡ None → is_free_step s ≡ false
apart_frees part (Free c) none = cc
apart_frees part _ none = refl

allocs_by : (n : ℕ) (part : Part) (s : Step) (number : ℕ) (entries : List ℕ) (o : Option ℕ)
    → (o ≡ None → is_birth s ≡ false)
    → (part_by n part s number entries o).row.allocs ≡ part.row.allocs + one (is_birth s)
allocs_by n part s number entries None apart = omega (arith, ap one (apart refl))
allocs_by n part s number entries (Some c) apart = allocs_step s part.row.allocs

frees_by : (n : ℕ) (part : Part) (s : Step) (number : ℕ) (entries : List ℕ) (o : Option ℕ)
    → (o ≡ None → is_free_step s ≡ false)
    → (part_by n part s number entries o).row.frees ≡ part.row.frees + one (is_free_step s)
frees_by n part s number entries None apart = omega (arith, ap one (apart refl))
frees_by n part s number entries (Some c) apart = frees_step s part.row.frees

allocs_more : (n : ℕ) (x : LogItem) (log : List LogItem)
    → (part_seen n (x ∷ log)).row.allocs ≡ (part_seen n log).row.allocs + bears x
allocs_more n (Stepped s number moved) log =
    allocs_by n (part_seen n log) s number (entries_found moved) (meant (part_seen n log) s)
    (apart_bears (part_seen n log) s)
allocs_more n (Loaded word number) log = omega arith
allocs_more n (Lost word number) log = omega arith

frees_more : (n : ℕ) (x : LogItem) (log : List LogItem)
    → (part_seen n (x ∷ log)).row.frees ≡ (part_seen n log).row.frees + frees x
frees_more n (Stepped s number moved) log =
    frees_by n (part_seen n log) s number (entries_found moved) (meant (part_seen n log) s)
    (apart_frees (part_seen n log) s)
frees_more n (Loaded word number) log = omega arith
frees_more n (Lost word number) log = omega arith

-- births and frees of a thread, whatever the size of the heap
pub births_told : (n : ℕ) (log : List LogItem) → (part_seen n log).row.allocs ≡ sum_by bears log
births_told n [] = refl
births_told n (x ∷ log) = omega (arith, allocs_more n x log, births_told n log, sum_by-cons bears x log)

pub frees_told : (n : ℕ) (log : List LogItem) → (part_seen n log).row.frees ≡ sum_by frees log
frees_told n [] = refl
frees_told n (x ∷ log) = omega (arith, frees_more n x log, frees_told n log, sum_by-cons frees x log)

-- ---- one more is registered, and one more gathered

pub counts_registered : (v : View) (registered gathered : ℕ) (ledger : Ledger) → Counts v registered gathered ledger
    → registrations v < MOST_REGISTRATIONS
    → Counts (registering v) (registered + 1) gathered ledger
counts_registered v registered gathered ledger counts few = record {
  all_registered = omega (arith, counts.all_registered);
  few = omega (arith, counts.all_registered, few);
  all_gathered = counts.all_gathered;
  allocs = counts.allocs;
  frees = counts.frees;
}

within_u32 : (n m k : ℕ) → n ≡ in_u32 m → k ≡ min (n + 1) 4294967295 → k ≡ in_u32 (m + 1)
within_u32 n m k is more = omega (arith, is, more)

within_u64 : (n m a k : ℕ) → n ≡ in_u64 m → k ≡ min (n + a) 18446744073709551615 → k ≡ in_u64 (a + m)
within_u64 n m a k is more = omega (arith, is, more)

pub counts_gathered : (v w : View) (registered gathered : ℕ) (ledger : Ledger) (n more allocs given_back : ℕ)
    (own : Ledger)
    → Counts v registered gathered ledger → own ≡ ledger_of n w.log
    → more ≡ min (gathered + 1) 4294967295 → allocs ≡ min (ledger.allocs + own.allocs) 18446744073709551615
    → given_back ≡ min (ledger.frees + own.frees) 18446744073709551615
    → Counts (gathering v w) registered more (record { allocs = allocs; frees = given_back })
counts_gathered v w registered gathered ledger n more allocs given_back own counts is one_more births deaths = record {
  all_registered = counts.all_registered;
  few = counts.few;
  all_gathered = within_u32 gathered (gatherings v) more counts.all_gathered one_more
      ∙ ap in_u32 (omega arith);
  allocs = within_u64 ledger.allocs (births_of_all v.gathered) own.allocs allocs counts.allocs births
      ∙ ap (λ m. in_u64 (m + births_of_all v.gathered)) (ap (λ (l : Ledger). l.allocs) is ∙ births_told n w.log)
      ∙ ap in_u64 (sym (sum_by-cons (λ (life : ℕ × List LogItem). sum_by bears life.1) (w.thread, w.log) v.gathered));
  frees = within_u64 ledger.frees (frees_of_all v.gathered) own.frees given_back counts.frees deaths
      ∙ ap (λ m. in_u64 (m + frees_of_all v.gathered)) (ap (λ (l : Ledger). l.frees) is ∙ frees_told n w.log)
      ∙ ap in_u64 (sym (sum_by-cons (λ (life : ℕ × List LogItem). sum_by frees life.1) (w.thread, w.log) v.gathered));
}
