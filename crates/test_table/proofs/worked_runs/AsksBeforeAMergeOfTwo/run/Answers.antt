use Rattle.std.proofs.Common.{◌<◌, sym, ap, subst, arith}
use Rattle.law.specs.known.Items.{Part}
use Rattle.test_table.proofs.Marks.{marked_after}
use Rattle.test_table.proofs.worked_runs.AsksBeforeAMergeOfTwo.run.Goals as goal

pub gone-requires-clause-marked : goal.gone-requires-clause-marked
gone-requires-clause-marked g c =
    marked_after c.args.table.now.cells c.load_shared.new.seat.log c.last_popped-number.new.seat.log 266
    c.last_popped-number.result.block (ap (λ (p : Part). p.worklist) c.last_popped-number.ensures.knows.part)
    (subst (λ k. 266 < k) (sym c.requires.first.0) (omega arith))
