-- What the readers of a world say, where the world's lists don't say it at once.
use Rattle.std.specs.Prelude.{ℕ, ◌+◌, ◌&&◌, ◌||◌, not, Bool, true, false, Option, Some, None, List, [], if◌then◌else◌}
use Rattle.std.specs.Prelude.{sum_by}
use Rattle.brc_core.specs.declared.readers.Status.{Status}
use Rattle.brc_core.specs.declared.readers.Status.TheVariants as statuses
use Rattle.brc_core.specs.declared.totals.Ledger.{Ledger}
use Rattle.brc_model.specs.declared.holder.Holder.{Holder}
use Rattle.law.specs.declared.world.row.Row.{Row}
use Rattle.law.specs.declared.world.row.Stage.{Stage}
use Rattle.law.specs.declared.world.row.Stage.TheVariants as stages
use Rattle.law.specs.world.Heap.{Heap, cell_at, row_at, is_immortal, is_registered, is_gathered}
use Rattle.law.specs.world.Holding.{lives_at, holders_of}
use Rattle.law.specs.world.Steps.{is_merged}

-- this, where the test holds
abbrev pub only_if : {A : Type 0} → Bool → A → Option A
only_if true x = Some x
only_if false x = None

-- how far a thread's life is; that it is gathered is known by the root
abbrev pub status_of : Stage → Bool → Status
status_of stages.Active false = statuses.Active
status_of (stages.Closing n) false = statuses.Closing
status_of stages.Left false = statuses.Left
status_of stages.Active true = statuses.Gathered
status_of (stages.Closing n) true = statuses.Gathered
status_of stages.Left true = statuses.Gathered
status_of (stages.Opening n) false = statuses.Opening
status_of (stages.Opening n) true = statuses.Gathered

-- an object is in the cell: an immortal, or a mortal one that lives
abbrev pub has_object : Heap → ℕ → Bool
has_object h c = is_immortal c || lives_at h c

-- an object is in the cell whose local count counts
abbrev pub counts_locally : Heap → ℕ → Bool
counts_locally h c = has_object h c && not (is_merged (cell_at h c).state)

-- a thread's ledger
abbrev pub ledger_of : Row → Ledger
ledger_of row = record { allocs = row.allocs; frees = row.frees }

-- the ledger of all registrations that are over
abbrev pub past_of : Heap → Ledger
past_of h = record { allocs = h.past_allocs; frees = h.past_frees }

-- the ledgers of all threads and registrations together
abbrev pub ledgers_of : Heap → Ledger
ledgers_of h = record {
  allocs = sum_by (λ row. row.allocs) h.rows + h.past_allocs;
  frees = sum_by (λ row. row.frees) h.rows + h.past_frees;
}

-- how far the life of a registered thread is
abbrev pub status_at : Heap → ℕ → Option Status
status_at h t = only_if (is_registered h t) (status_of (row_at h t).stage (is_gathered h t))

-- the holders of an object that lives and dies
abbrev pub mortal_holders : Heap → ℕ → List Holder
mortal_holders h c = if lives_at h c then holders_of h c else []
