use Rattle.brc_count.specs.Frames.{IsUnlocked}
use Rattle.brc_count.specs.Owned.{Keeps}
use Rattle.brc_loops.specs.Turns.{LoopTurns}
use Rattle.brc_loops.proofs.repeating.repeat.Given as goal

abbrev pub invariant-loop-before : goal.invariant-loop-before
invariant-loop-before g l = record {
  keeps : Keeps l.fn.frame l.frame;
  unlocked : IsUnlocked l.frame;
  done : LoopTurns (g.T.Task.done l.task) l.before l.fn.frame l.frame;
}
