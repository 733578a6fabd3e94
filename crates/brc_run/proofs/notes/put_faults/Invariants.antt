use Rattle.brc_run.specs.Notes.{AppendsSome}
use Rattle.brc_run.proofs.notes.put_faults.Given as goal

abbrev pub invariant-loop-index : goal.invariant-loop-index
invariant-loop-index g l = AppendsSome (g.W.Write.contents l.fn.errors) (g.W.Write.contents l.errors)
