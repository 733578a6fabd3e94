use Rattle.std.proofs.Common.{◌∙◌, rules}
use Rattle.brc_loops.proofs.One_Heap.{one_rests}
use Rattle.brc_loops.proofs.threads.rest_more.Goals as goal

pub returns-in_err-done-clause-heap : goal.returns-in_err-done-clause-heap
returns-in_err-done-clause-heap g c =
    one_rests c.args.heap.now c.rest.result c.loop-before.all.items c.reserve.new.self.items
    c.push_reserved.new.self.items c.reserve.ensures.items c.push_reserved.ensures.items (search rules)
    c.loop-before.invariant.1

pub loop-before-preserved : goal.loop-before-preserved
loop-before-preserved g c = (
  c.register.ensures.same_root.0 ∙ c.loop-before.invariant.0,
  one_rests c.args.heap.now c.rest.result c.loop-before.all.items c.reserve.new.self.items
      c.push_reserved.new.self.items c.reserve.ensures.items c.push_reserved.ensures.items (search rules)
      c.loop-before.invariant.1,
  search rules,
  search rules,
  search rules,
)
