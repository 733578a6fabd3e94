use Rattle.std.proofs.Common.{rules}
use Rattle.brc_biased.proofs.Marking.{dead_settled}
use Rattle.brc_biased.proofs.counter.Counter.settle_left.Goals as goal

pub returns-clause-dead : goal.returns-clause-dead
returns-clause-dead g c =
    let known = rw c.table.ensures at c.last_left-number.ensures.knows.part in
    rw (← c.self.view_is) (dead_settled _ c.self.inside.seat.log c.last_left-number.new.seat.log
    c.args.cell c.last_left-number.result.block known (search rules))
