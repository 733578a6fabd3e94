use Rattle.std.proofs.Common.{rules}
use Rattle.brc_biased.proofs.Owning.{owns_born}
use Rattle.brc_biased.proofs.counter.Counter.bear.Goals as goal

pub invariant_of-self : goal.invariant_of-self
invariant_of-self g c = record {
  same_table = search rules;
  fit = search rules;
  owns = rw c.mark_owned.ensures (owns_born _ c.self.inside.counts.items c.self.inside.owned.items c.cell-cell.result
      c.self.invariant.owns c.self.invariant.fit.wide 1);
}
