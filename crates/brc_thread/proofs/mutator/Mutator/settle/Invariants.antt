use Rattle.brc_count.specs.Frames.{KeepsHandles}
use Rattle.brc_thread.specs.Settling.{PollsAndWorks}
use Rattle.brc_thread.proofs.mutator.Mutator.settle.Given as goal

abbrev pub invariant-loop : goal.invariant-loop
invariant-loop g l =
    (goal.iterator-loop g).can_next l.iterator' × (goal.iterator-loop g).is_finite l.iterator'
    × KeepsHandles l.fn.self l.self × PollsAndWorks l.fn.self l.self
