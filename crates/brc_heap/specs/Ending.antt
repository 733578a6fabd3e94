-- Why a heap that has ended has no report.
use Rattle.std.specs.Prelude.{◌≡◌, ◌≢◌}
use Rattle.brc_count.specs.table.Seated.{RootSeen}
use Rattle.brc_thread.specs.Counting.{registrations, gatherings, in_u32}
use Rattle.brc_heap.specs.declared.closing.CloseFault.{CloseFault}
use Rattle.brc_heap.specs.declared.closing.CloseFault.TheVariants.{Missing, Memory}
use Rattle.brc_heap.specs.declared.ending.NoReport.{NoReport}
use Rattle.brc_heap.specs.declared.ending.NoReport.TheVariants as reasons

-- the heap and the root that are handed back, if they are, are of one table
abbrev pub HasOneTable : {A : Type 0} → CloseFault A → Type 0
HasOneTable (Missing registered gathered heap root) = root.table ≡ heap.table
HasOneTable Memory = Unit {0}

-- why a heap isn't closed, or has no report, without what must be spent
abbrev pub reason_of : {A : Type 0} → CloseFault A → NoReport
reason_of (Missing registered gathered heap root) = reasons.Missing registered gathered
reason_of Memory = reasons.Memory

-- The root registered another number of threads than it gathered, and both numbers are returned; or it gathered all,
-- and memory was missing.
abbrev pub LacksReport : RootSeen → NoReport → Type 0
LacksReport root (reasons.Missing registered gathered) =
    (registrations root.view ≢ gatherings root.view)
    × (registered ≡ registrations root.view) × (gathered ≡ in_u32 (gatherings root.view))
LacksReport root reasons.Memory = registrations root.view ≡ gatherings root.view
