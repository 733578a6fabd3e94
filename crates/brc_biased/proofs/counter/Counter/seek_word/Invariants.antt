use Rattle.brc_biased.proofs.Searching.{IsInWord}
use Rattle.brc_biased.proofs.counter.Counter.seek_word.Given as goal

abbrev pub invariant-loop-cell : goal.invariant-loop-cell
invariant-loop-cell g l = IsInWord l.fn.self l.word l.found l.cell l.self
