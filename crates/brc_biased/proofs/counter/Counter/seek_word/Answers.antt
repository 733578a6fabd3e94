use Rattle.std.proofs.Common.{rules, ◌≡◌, ◌∙◌, sym, arith}
use Rattle.std.proofs.lemmas.Bool.{eq-eqb, true≢false}
use Rattle.brc_biased.proofs.Searching.{begins_word, passes_blank, skips, misses}
use Rattle.brc_biased.proofs.counter.Counter.seek_word.Goals.{else-has_bit-via-then-has_bit+else-try_cell}
use Rattle.brc_biased.proofs.counter.Counter.seek_word.Goals.{else-has_bit-via-else-has_bit}
use Rattle.brc_biased.proofs.counter.Counter.seek_word.Goals as goal

pub returns-then-found-eq0-clause-full : goal.returns-then-found-eq0-clause-full
returns-then-found-eq0-clause-full g c = passes_blank c.args.word c.load_free-found.result c.args.self.now.heap.cells
    (search rules) (search rules)

pub loop-cell-init : goal.loop-cell-init
loop-cell-init g c =
    begins_word c.args.word c.load_free-found.result c.zeros_below.result c.min-first.result (search rules)
    (search rules) (search rules) (search rules) (search rules) (search rules)
    c.zeros_below.ensures.few c.zeros_below.ensures.zeros (omega (arith, c.min-first.ensures, c.max.ensures))

pub loop-cell-preserved : goal.loop-cell-preserved
loop-cell-preserved g c = elim c.else-has_bit.branch [
  | else-has_bit-via-then-has_bit+else-try_cell w ↦
      let tried = w.if-try_cell.ensures in
      rw w.self-is (misses c.loop-cell.invariant tried.heap tried.seat (tried.missed (search rules))
      (tried.still (search rules)) (search rules) (search rules))
  | else-has_bit-via-else-has_bit w ↦
      let same : c.cells-cells.result ≡ c.args.self.now.heap.cells = search rules in
      rw w.self-is (skips c.loop-cell.invariant
      (omega (
        arith,
        c.loop-cell.auto.cell,
        c.loop-cell-test.true,
        c.min-first.ensures,
        c.max.ensures,
        c.min-last.ensures,
        c.requires.inside,
        same,
      ))
      (λ found. true≢false (sym (eq-eqb _ 1 found) ∙ sym c.has_bit.ensures ∙ w.if-has_bit.false)))
]
