-- How many threads the root has registered and gathered, and what those that it gathered did, counted from its view.
use Rattle.std.specs.Prelude.{◌≡◌, ◌≤◌, ℕ, List, length, min, sum_by}
use Rattle.brc_words.specs.declared.limits.TheConstants.{MOST_REGISTRATIONS}
use Rattle.brc_count.specs.law.world.Lists.{one}
use Rattle.brc_count.specs.law.world.Holding.{is_birth}
use Rattle.brc_count.specs.law.world.Steps.{is_free_step}
use Rattle.brc_count.specs.law.declared.rule.told.LogItem.{LogItem}
use Rattle.brc_count.specs.law.declared.rule.told.LogItem.TheVariants.{Stepped}
use Rattle.brc_count.specs.law.declared.rule.view.View.{View}
use Rattle.brc_count.specs.declared.ledger.Ledger.{Ledger}
-- how many threads the root has registered
pub use Rattle.brc_count.specs.law.steps.Joining.{registrations}

-- the step bears an object, gives a cell back
abbrev pub bears : LogItem → ℕ
bears (Stepped s number moved) = one (is_birth s)
bears x = 0

abbrev pub frees : LogItem → ℕ
frees (Stepped s number moved) = one (is_free_step s)
frees x = 0

-- how many threads the root has gathered: it has a log for each
abbrev pub gatherings : View → ℕ
gatherings v = length v.gathered

-- what those that it gathered did, added up
abbrev pub births_of_all : List (ℕ × List LogItem) → ℕ
births_of_all lives = sum_by (λ (life : ℕ × List LogItem). sum_by bears life.1) lives

abbrev pub frees_of_all : List (ℕ × List LogItem) → ℕ
frees_of_all lives = sum_by (λ (life : ℕ × List LogItem). sum_by frees life.1) lives

-- as far as 32 bits count, and as far as 64 bits do: every number that a heap comes to is below that, but no type says
-- so
abbrev pub in_u32 : ℕ → ℕ
in_u32 n = min n 4294967295

abbrev pub in_u64 : ℕ → ℕ
in_u64 n = min n 18446744073709551615

-- what a root counts is so of its view; it registers no more threads than a heap may register
pub record Counts (view : View) (registered gathered : ℕ) (ledger : Ledger) : Type 0 where
  pub all_registered : registered ≡ registrations view
  pub few : registered ≤ MOST_REGISTRATIONS
  pub all_gathered : gathered ≡ in_u32 (gatherings view)
  pub allocs : ledger.allocs ≡ in_u64 (births_of_all view.gathered)
  pub frees : ledger.frees ≡ in_u64 (frees_of_all view.gathered)
