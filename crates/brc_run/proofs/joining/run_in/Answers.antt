use Rattle.std.proofs.Common.{arith}
use Rattle.brc_run.specs.Runs.{IsBegun}
use Rattle.brc_run.proofs.Ordered.{as_many}
use Rattle.brc_run.proofs.joining.run_in.Goals as goal

pub join_each-requires-clause-room : goal.join_each-requires-clause-room
join_each-requires-clause-room g c =
    let many = as_many (IsBegun c.args.context.now.heap.now c.args.context.now.gate.now (g.G.Gate.may_refuse c.args.context.now.gate.now)) 1
    c.args.sections.now c.begin_each-begun.result.items c.begin_each-begun.ensures.begun in
    omega (arith, many)
