use Rattle.std.proofs.Common.{◌≡◌}
use Rattle.brc_run.specs.Runs.{CameBack}
use Rattle.brc_run.proofs.Ordered.{each_is}
use Rattle.brc_run.proofs.Reported.{takes_all}
use Rattle.brc_run.proofs.sections.run_on.Goals as goal

pub gather_all-requires-clause-same_heap : goal.gather_all-requires-clause-same_heap
gather_all-requires-clause-same_heap g c =
    each_is (CameBack c.args.heap.now (g.G.Gate.may_refuse c.args.gate.now)) (λ one. one.retired.heap ≡ c.args.heap.now)
    (λ n x y so. so.heap_is) 1
    c.args.sections.now c.run_all-done.result.items c.run_all-done.ensures.done

pub returns-clause-gathered : goal.returns-clause-gathered
returns-clause-gathered g c =
    takes_all c.args.heap.now (g.G.Gate.may_refuse c.args.gate.now) c.args.sections.now c.run_all-done.result.items
    c.in-Some.ends.items c.args.root.now c.register_all.new.root c.gather_all.new.root c.clear.new.root
    c.in_default.ensures.registered c.in-Some.ensures.gathered c.in_ok-clear.ensures.clears
    c.run_all-done.ensures.done c.in-Some.ensures.ends
