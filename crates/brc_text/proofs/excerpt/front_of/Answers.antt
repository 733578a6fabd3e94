use Rattle.std.proofs.Common.{sym, arith, rules}
use Rattle.std.proofs.lemmas.List.{length-take, length-take-le, take_all}
use Rattle.brc_text.proofs.excerpt.front_of.Goals as goal

pub slice_bounds-result-end : goal.slice_bounds-result-end
slice_bounds-result-end c =
    let long = c.if-word-le-MOST_SHOWN.false in
    sym (length-take-le 64 c.args.word.now (omega arith))

pub returns-then-word-le-MOST_SHOWN-clause-front : goal.returns-then-word-le-MOST_SHOWN-clause-front
returns-then-word-le-MOST_SHOWN-clause-front c =
    let short = c.if-word-le-MOST_SHOWN.true in
    sym (take_all 64 c.args.word.now (omega arith))

pub returns-else-word-le-MOST_SHOWN-clause-short : goal.returns-else-word-le-MOST_SHOWN-clause-short
returns-else-word-le-MOST_SHOWN-clause-short c =
    let long = c.if-word-le-MOST_SHOWN.false in
    let is = length-take-le 64 c.args.word.now (omega arith) in
    rw is (omega arith)
