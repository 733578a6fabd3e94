use Rattle.std.proofs.Common.{◌<◌, sym, ap, subst, arith}
use Rattle.law.specs.known.Items.{Part}
use Rattle.test_table.proofs.Marks.{marked_after}
use Rattle.test_table.proofs.parts.ends_what_is_merged.Goals as goal

pub gone-requires-clause-marked : goal.gone-requires-clause-marked
gone-requires-clause-marked g c =
    marked_after c.args.table.now.cells c.load_shared.new.seat.log c.last_down-number.new.seat.log 266
    c.last_down-number.result.block (ap (λ (p : Part). p.worklist) c.last_down-number.ensures.knows.part)
    (subst (λ k. 266 < k) (sym c.requires.stands.0) (omega arith))
