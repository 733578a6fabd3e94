use Rattle.std.proofs.Common.{arith}
use Rattle.brc_loops.proofs.Errands_Done.{accepted, all_done, as_many, given_each, rewritten}
use Rattle.brc_loops.proofs.errands.do_all.Goals as goal

pub do_each-requires-after_bounds : goal.do_each-requires-after_bounds
do_each-requires-after_bounds g c κs within =
    accepted g.F.Fn c.args.f.now _ _ _ c.as_mut_slice.ensures.value c.laid_out-errands.ensures c.requires

pub answered-requires-clause-done : goal.answered-requires-clause-done
answered-requires-clause-done g c =
    all_done g.F.Fn c.args.f.now _ _ _ c.as_mut_slice.ensures.value c.laid_out-errands.ensures c.do_each.new.errands _
    (rewritten _ c.do_each.new.errands _ (omega (arith, c.do_each.auto.errands, c.as_mut_slice.ensures.len)))
    (omega (arith, c.do_each.auto.errands)) c.do_each.ensures

pub returns-clause-len : goal.returns-clause-len
returns-clause-len g c =
    as_many g.F.Fn c.args.f.now _ _ _ c.as_mut_slice.ensures.value c.laid_out-errands.ensures c.do_each.new.errands _
    (rewritten _ c.do_each.new.errands _ (omega (arith, c.do_each.auto.errands, c.as_mut_slice.ensures.len)))
    (omega (arith, c.do_each.auto.errands)) c.do_each.ensures _ c.answered.ensures

pub returns-clause-each : goal.returns-clause-each
returns-clause-each g c =
    given_each g.F.Fn c.args.f.now _ _ _ c.as_mut_slice.ensures.value c.laid_out-errands.ensures c.do_each.new.errands _
    (rewritten _ c.do_each.new.errands _ (omega (arith, c.do_each.auto.errands, c.as_mut_slice.ensures.len)))
    (omega (arith, c.do_each.auto.errands)) c.do_each.ensures _ c.answered.ensures
