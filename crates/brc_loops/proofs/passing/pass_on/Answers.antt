use Rattle.std.proofs.Common.{rules}
use Rattle.brc_loops.proofs.Traded.{traded_not}
use Rattle.brc_loops.proofs.Turning.{no_turn, one_more}
use Rattle.brc_loops.proofs.passing.pass_on.Goals as goal

pub loop-before-init : goal.loop-before-init
loop-before-init g c = record {
  trades = traded_not _ _ c.requires.owned;
  ready = c.requires.ready;
  unlocked = c.requires.unlocked;
  turns = no_turn _ _;
}

pub loop-before-preserved : goal.loop-before-preserved
loop-before-preserved g c = record {
  trades = search rules;
  ready = search rules;
  unlocked = c.pass.ensures.unlocked;
  turns = one_more _ _ _ _ _ c.loop-before.invariant.turns c.in_ok-last.ensures.turns;
}

pub returns-in_err-last-clause-fails : goal.returns-in_err-last-clause-fails
returns-in_err-last-clause-fails g c = rw c.from_residual.ensures (record {
  made = c.loop-before.before;
  fewer = c.loop-before-test.true;
  from = (c.loop-before.last, c.loop-before.frame);
  turns = c.loop-before.invariant.turns;
  fails = c.in_err-last.ensures.fails;
})
