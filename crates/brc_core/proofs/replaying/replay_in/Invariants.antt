use Rattle.std.proofs.Common.{take, reverse}
use Rattle.brc_core.proofs.Turns.{LeadsTo}
use Rattle.law.specs.world.Heap.{opening_in}
use Rattle.brc_core.proofs.replaying.replay_in.Given as goal

abbrev pub invariant-loop-at : goal.invariant-loop-at
invariant-loop-at g l = LeadsTo (opening_in l.fn.edition l.cells l.local_limit) (reverse (take l.at l.events)) l.world
