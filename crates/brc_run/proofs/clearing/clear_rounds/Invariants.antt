use Rattle.std.proofs.Common.{◌≡◌}
use Rattle.brc_count.specs.Frames.{IsUnlocked}
use Rattle.brc_run.proofs.clearing.clear_rounds.Given as goal

abbrev pub invariant-loop : goal.invariant-loop
invariant-loop g l =
    (goal.iterator-loop g).can_next l.iterator' × (goal.iterator-loop g).is_finite l.iterator'
    × (l.mutator.len ≡ 0) × IsUnlocked l.mutator × (l.mutator.heap ≡ l.fn.mutator.heap)
