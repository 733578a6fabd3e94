-- A thread that the desk's root takes in, as whoever asked for it sees it.
use Rattle.std.proofs.Common.{◌≡◌, ◌∙◌, ap, sym, subst}
use Rattle.std.specs.declared.alloc.Global.{Global}
use Rattle.brc_count.specs.law.steps.Joining.{gathering}
use Rattle.brc_count.specs.table.Seated.{TableSeen, RootSeen, view_of}
use Rattle.brc_thread.specs.Threads.{RetiredSeen}
use Rattle.brc_heap.specs.declared.shared.RootCounts.{RootCounts}
use Rattle.brc_heap.specs.Desk.{SightSeen}
use Rattle.brc_heap.specs.Shared.{HasCounted, GathersHere, IsOf}

pub gathers_here : (heap : TableSeen) (retired : RetiredSeen Global) (old new : RootSeen) (seen : SightSeen)
    (counts : RootCounts) → new.view ≡ gathering old.view (view_of retired.seat) → seen.heap ≡ heap → seen.found ≡ old
    → seen.left ≡ new → new.table ≡ old.table → old.table ≡ heap.table → HasCounted new.view counts
    → GathersHere heap retired seen counts
gathers_here heap retired old new seen counts took at found left same of_heap counted = record {
  of_heap = record {
    heap_is = at;
    found_of = ap (λ (r : RootSeen). r.table) found ∙ of_heap;
    left_of = ap (λ (r : RootSeen). r.table) left ∙ same ∙ of_heap;
  };
  took = ap (λ (r : RootSeen). r.view) left ∙ took
      ∙ ap (λ (r : RootSeen). gathering r.view (view_of retired.seat)) (sym found);
  counted = subst (λ (r : RootSeen). HasCounted r.view counts) (sym left) counted;
}
