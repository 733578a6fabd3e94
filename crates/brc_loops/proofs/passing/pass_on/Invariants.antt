use Rattle.brc_count.specs.Frames.{IsUnlocked}
use Rattle.brc_count.specs.Owned.{Trades}
use Rattle.brc_loops.specs.Turns.{LoopTurns, Passes}
use Rattle.brc_loops.proofs.passing.pass_on.Given as goal

abbrev pub invariant-loop-before : goal.invariant-loop-before
invariant-loop-before g l = record {
  trades : Trades l.fn.frame l.frame (g.P.Passing.held l.fn.passing) (g.P.Passing.held l.last);
  ready : g.P.Passing.ready l.last l.frame;
  unlocked : IsUnlocked l.frame;
  turns : LoopTurns (Passes g.P.Passing.turns) l.before (l.fn.passing, l.fn.frame) (l.last, l.frame);
}
