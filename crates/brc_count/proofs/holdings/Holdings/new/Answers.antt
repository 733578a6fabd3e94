use Rattle.brc_count.proofs.Changes.{opening}
use Rattle.brc_count.proofs.holdings.Holdings.new.Goals as goal

pub invariant_of-result : goal.invariant_of-result
invariant_of-result g c = rw c.new-2.ensures (opening c.args.counter.heap c.args.counter.seat c.new.result
    c.args.popped.items c.requires.new c.requires.bare c.new.ensures.none c.requires.blank)
