use Rattle.std.proofs.Common.{rules}
use Rattle.brc_biased.proofs.Marking.{dead_handed}
use Rattle.brc_biased.proofs.counter.Counter.hand_on.Goals as goal

pub returns-clause-told : goal.returns-clause-told
returns-clause-told g c = rw (← c.self.view_is) (record {
  offered = c.offer-offered.result;
  ends = search rules;
})

pub returns-clause-dead : goal.returns-clause-dead
returns-clause-dead g c =
    let known = rw c.table-table.ensures at c.merge_yielding-number.ensures.knows.part in
    rw (← c.self.view_is) (dead_handed _ c.untie_offered.new.seat.log c.merge_yielding-number.new.seat.log
    c.args.cell c.merge_yielding-number.result.block known (search rules))
