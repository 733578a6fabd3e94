use Rattle.brc_graph.proofs.BoxLaws.{more_held}
use Rattle.brc_graph.proofs.boxes.held_objects.Goals as goal

pub loop-line-preserved : goal.loop-line-preserved
loop-line-preserved g c =
    more_held c.args.lines.now c.loop-line.line-index c.line-item.result c.loop-line.held.items _ _
    c.loop-line-test.true c.line-item.is c.in_ok-push_held.ensures c.loop-line.invariant
