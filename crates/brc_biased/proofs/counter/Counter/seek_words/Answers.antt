use Rattle.std.proofs.Common.{rules, ◌*◌, arith}
use Rattle.brc_biased.proofs.Searching.{begins, next_word, claims_later, passes_fewer}
use Rattle.brc_biased.proofs.counter.Counter.seek_words.Goals as goal

pub loop-word-init : goal.loop-word-init
loop-word-init g c = begins c.args.self.now (c.args.from * 64) c.args.self.now.heap.cells

pub returns-in-Some-clause-claimed : goal.returns-in-Some-clause-claimed
returns-in-Some-clause-claimed g c = claims_later c.args.self.now.heap.cells c.loop-word.word c.in-Some.cell
    c.loop-word.invariant (search rules) (search rules)

pub returns-clause-full : goal.returns-clause-full
returns-clause-full g c = passes_fewer (omega (arith, c.loop-word-test.false)) c.loop-word.invariant.passed

pub loop-word-preserved : goal.loop-word-preserved
loop-word-preserved g c =
    let passed = c.seek_word.ensures in
    next_word c.args.self.now.heap.cells c.loop-word.word c.loop-word.invariant passed.heap passed.seat (search rules)
    (search rules) (search rules) (search rules)
