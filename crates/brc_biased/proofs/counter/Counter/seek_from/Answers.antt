use Rattle.std.proofs.Common.{rules, ◌≡◌, arith}
use Rattle.brc_table.specs.law.known.Free_Words.{free_words_for}
use Rattle.brc_biased.proofs.Searching.{claims_ahead, claims_behind, passes_behind, passes_end, keeps_through}
use Rattle.brc_biased.proofs.counter.Counter.seek_from.Goals as goal

pub returns-in-Some-clause-claimed : goal.returns-in-Some-clause-claimed
returns-in-Some-clause-claimed g c = claims_ahead c.in-Some.ensures.ahead c.in-Some.ensures.claimed

pub returns-clause-claimed : goal.returns-clause-claimed
returns-clause-claimed g c =
    let many : c.free_words-words.result ≡ free_words_for c.args.self.now.heap.cells = search rules in
    claims_behind c.args.start c.seek_words-2.new.self.seat.log c.seek_words-2.result (omega arith)
    (passes_end c.free_words-words.result (omega (arith, many)) c.in_default.ensures.full)
    (rw c.seek_words.ensures.heap at c.seek_words-2.ensures.inside) c.seek_words-2.ensures.claimed

pub returns-clause-full : goal.returns-clause-full
returns-clause-full g c =
    let many : c.free_words-words.result ≡ free_words_for c.args.self.now.heap.cells = search rules in
    passes_behind c.args.start c.seek_words-2.new.self.seat.log c.seek_words-2.result (omega arith)
    (λ d inside low. omega (arith, inside, low, c.min.ensures, many))
    (passes_end c.free_words-words.result (omega (arith, many)) c.in_default.ensures.full)
    (rw c.seek_words.ensures.heap at c.seek_words-2.ensures.full)

pub returns-clause-keeps : goal.returns-clause-keeps
returns-clause-keeps g c = keeps_through c.in_default.ensures.full_knows.part c.seek_words.ensures.keeps
    (rw c.seek_words.ensures.heap at c.seek_words-2.ensures.keeps)
