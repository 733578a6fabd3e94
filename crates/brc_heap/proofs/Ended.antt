-- What is known of a heap that stays open, as it is ended after all.
use Rattle.std.proofs.Common.{◌≡◌, sym, ◌∙◌, ap}
use Rattle.brc_count.specs.table.Seated.{TableSeen, RootSeen}
use Rattle.brc_heap.specs.Closing.{StaysOpen}
use Rattle.brc_heap.specs.Ending.{HasOneTable, reason_of, LacksReport}
use Rattle.brc_heap.specs.declared.closing.CloseFault.{CloseFault}
use Rattle.brc_heap.specs.declared.closing.CloseFault.TheVariants.{Missing, Memory}
use Rattle.brc_heap.specs.declared.ending.NoReport.{NoReport}

module _ {A : Type 0} where
  pub has_one_table : (heap : TableSeen) (root : RootSeen) (fault : CloseFault A) → StaysOpen heap root fault
      → root.table ≡ heap.table → HasOneTable fault
  has_one_table heap root (Missing registered gathered same_heap same_root) stays one =
      ap (λ (r : RootSeen). r.table) stays.4 ∙ one ∙ sym (ap (λ (h : TableSeen). h.table) stays.3)
  has_one_table heap root Memory stays one = tt

  pub lacks_report : (heap : TableSeen) (root : RootSeen) (fault : CloseFault A) (reason : NoReport)
      → StaysOpen heap root fault → reason ≡ reason_of fault → LacksReport root reason
  lacks_report heap root (Missing registered gathered same_heap same_root) reason stays is =
      rw is (stays.0, stays.1, stays.2)
  lacks_report heap root Memory reason stays is = rw is stays
