use Rattle.brc_run.specs.Notes.{AppendsSome}
use Rattle.brc_run.proofs.notes.put_remains.Given as goal

abbrev pub invariant-loop-remain : goal.invariant-loop-remain
invariant-loop-remain g l = AppendsSome (g.W.Write.contents l.fn.errors) (g.W.Write.contents l.errors)
