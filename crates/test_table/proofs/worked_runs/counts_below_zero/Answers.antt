use Rattle.std.proofs.Common.{◌<◌, sym, ap, subst, arith}
use Rattle.law.specs.known.Items.{Part}
use Rattle.test_table.proofs.Marks.{marked_after}
use Rattle.test_table.proofs.worked_runs.counts_below_zero.Goals as goal

pub gone-requires-clause-marked : goal.gone-requires-clause-marked
gone-requires-clause-marked g c =
    marked_after c.args.table.now.cells c.merges_popped.new.seat.log c.last_added-number.new.seat.log 266
    c.last_added-number.result.block (ap (λ (p : Part). p.worklist) c.last_added-number.ensures.knows.part)
    (subst (λ k. 266 < k) (sym c.requires.first.0) (omega arith))
