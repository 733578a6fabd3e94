use Rattle.brc_run.proofs.Run_Told.{done_unrun, done_run}
use Rattle.brc_run.proofs.crew.run_one.Goals as goal
use Rattle.brc_run.proofs.crew.run_one.Goals.{then-has_ended, else-has_ended}

pub returns : goal.returns
returns g c =
    let heap = c.args.context.now.heap.now in
    let refuses = g.G.Gate.may_refuse c.args.context.now.gate.now in
    let number = c.args.number in
    let section = c.args.section.now in
    let resting = c.args.resting in
    let woken = c.wake-mutator.result in
    let mutator = c.if-has_ended.mutator in
    elim c.if-has_ended.branch [
      | then-has_ended w ↦ done_unrun heap refuses number section resting woken mutator c.settle_and_leave.result
          c.if-has_ended.end c.requires.ready c.wake-mutator.ensures.same c.settle_and_leave.ensures w.mutator-is
          w.end-is
      | else-has_ended w ↦
          let ran = w.run_section.ensures in
          done_run heap refuses number section resting woken mutator c.settle_and_leave.result c.if-has_ended.end
          c.requires.ready c.wake-mutator.ensures.same c.settle_and_leave.ensures w.run_section.new.mutator
          w.run_section.result
          w.mutator-is w.end-is ran.heap (record {
            line = ran.line;
            busy = ran.busy;
            prints = ran.prints;
            fits = ran.no_frame_full;
          })
          ran.births ran.heap_full ran.ledger_full
    ]
