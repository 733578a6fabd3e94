use Rattle.std.proofs.Common.{◌+◌, ◌-◌, length}
use Rattle.brc_trace.specs.Worlds.{over, thread_text}
use Rattle.brc_trace.proofs.WorldLaws.{PutsOver}
use Rattle.brc_trace.proofs.world_text.put_threads.Given as goal

abbrev pub invariant-loop-before : goal.invariant-loop-before
invariant-loop-before g l =
    PutsOver (g.W.Write.contents l.fn.writer) (g.W.Write.contents l.writer)
    (over (thread_text l.world) 1 (length l.world.rows - 1))
    (thread_text l.world) (l.before + 1) (length l.world.rows - 1) l.before
