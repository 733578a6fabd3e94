-- What is seen of the report of a heap that has ended.
use Rattle.std.specs.declared.alloc.Global.{Global}
use Rattle.atomic_table.specs.Seated.{TableId}
use Rattle.brc_report.specs.declared.report.Report.{Report}
use Rattle.brc_count.specs.table.Seated.{TableSeen, RootSeen}

-- The report; which heap it is of; from which desk that heap's root was taken to end it, and the root as it was then.
pub record LastReportSeen : Type 0 where
  pub report : Report Global
  pub heap : TableSeen
  pub desk : TableId
  pub root : RootSeen
