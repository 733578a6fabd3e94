use Rattle.std.proofs.Common.{take, reverse}
use Rattle.brc_core.proofs.Turns.{LeadsTo}
use Rattle.brc_trace.proofs.explaining.explain_events.Given as goal

abbrev pub invariant-loop-at : goal.invariant-loop-at
invariant-loop-at g l = LeadsTo l.fn.world (reverse (take l.at l.events)) l.world
