use Rattle.brc_biased.proofs.Owning.{counts_none, owns_none}
use Rattle.brc_biased.proofs.counter.Counter.new.Goals as goal

pub invariant_of-result : goal.invariant_of-result
invariant_of-result g c = record {
  same_table = c.requires.table;
  fit = counts_none _ _ c.args.counts.items c.requires.wide c.requires.each c.requires.none;
  owns = owns_none _ c.args.counts.items c.args.owned.items c.requires.bits c.requires.each;
}
