use Rattle.bench_heap.proofs.Chained.{chained_keeps}
use Rattle.bench_heap.proofs.values.pass_labelled.Goals as goal

pub returns-in-Some-clause-keeps : goal.returns-in-Some-clause-keeps
returns-in-Some-clause-keeps g c =
    chained_keeps c.args.frame.now c.new_int.new.frame c.pass_on.new.frame c.in-Ok.object c.in-Some.field-0.object
    c.release.new.self c.in-Ok.ensures.gains c.in-Some.ensures.trades c.release.ensures.loses
