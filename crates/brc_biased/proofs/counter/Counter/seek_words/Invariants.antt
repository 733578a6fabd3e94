use Rattle.std.proofs.Common.{◌*◌, min}
use Rattle.brc_biased.proofs.Searching.{IsSeeking}
use Rattle.brc_biased.proofs.counter.Counter.seek_words.Given as goal

abbrev pub invariant-loop-word : goal.invariant-loop-word
invariant-loop-word g l = IsSeeking l.fn.self (l.fn.from * 64) (min (l.word * 64) l.fn.self.heap.cells) l.self
