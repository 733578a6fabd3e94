use Rattle.std.proofs.Common.{rules}
use Rattle.brc_loops.proofs.Turning.{no_turn, one_more}
use Rattle.brc_loops.proofs.repeating.repeat.Goals as goal

pub loop-before-init : goal.loop-before-init
loop-before-init g c = record {
  keeps = search rules;
  unlocked = c.requires.unlocked;
  done = no_turn _ _;
}

pub loop-before-preserved : goal.loop-before-preserved
loop-before-preserved g c = record {
  keeps = search rules;
  unlocked = c.run.ensures.unlocked;
  done = one_more _ _ _ _ _ c.loop-before.invariant.done c.in_ok-run.ensures.done;
}
