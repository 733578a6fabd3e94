use Rattle.brc_section.proofs.Runs.{none_more}
use Rattle.brc_section.proofs.section.first_line.Goals as goal

pub loop-at-preserved : goal.loop-at-preserved
loop-at-preserved g c = none_more c.args.pieces.now c.loop-at.at c.index-pieces-at.result c.loop-at-test.true
    c.index-pieces-at.is c.loop-at.invariant
    c.in_default.ensures.none
