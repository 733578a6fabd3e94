use Rattle.brc_run.specs.Notes.{AppendsSome}
use Rattle.brc_run.proofs.words.put_words.Given as goal

abbrev pub invariant-loop-word : goal.invariant-loop-word
invariant-loop-word g l = AppendsSome (g.W.Write.contents l.fn.errors) (g.W.Write.contents l.errors)
