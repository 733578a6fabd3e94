use Rattle.std.proofs.Common.{subst}
use Rattle.brc_count.specs.table.Seated.{TableSeen, RootSeen}
use Rattle.brc_thread.specs.Ending.{IsLastState}
use Rattle.brc_thread.proofs.Ending.{ends_so}
use Rattle.brc_thread.proofs.ends.take_apart.Goals as goal

pub returns : goal.returns
returns g c =
    let table = c.heap.inside.table in
    let seat = c.root.inside.seat in
    let ended = ends_so table.cells table.local_limit seat.id seat.view c.take_apart.result c.root.invariant.0
    c.root.invariant.1 c.take_apart.ensures in
    record {
      ended = subst (λ (h : TableSeen). IsLastState h.cells h.local_limit c.args.root.id c.args.root.view
          c.take_apart.result)
          c.heap.view_is
          (subst (λ (r : RootSeen). IsLastState table.cells table.local_limit r.id r.view c.take_apart.result)
          c.root.view_is ended);
    }
