use Rattle.std.proofs.Common.{length}
use Rattle.brc_text.specs.Puts.{PutsUpTo}
use Rattle.brc_text.proofs.putting.put_bytes.Given as goal

abbrev pub invariant-loop-rest : goal.invariant-loop-rest
invariant-loop-rest g l = PutsUpTo (g.W.Write.contents l.fn.writer) (g.W.Write.contents l.writer) l.bytes l.rest

abbrev pub decreases-loop-rest : goal.decreases-loop-rest
decreases-loop-rest g l = length l.rest
