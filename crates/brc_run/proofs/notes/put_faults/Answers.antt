use Rattle.std.proofs.Common.{Ok, Err}
use Rattle.brc_run.proofs.Put_Some.{appends_none, puts_more}
use Rattle.brc_run.proofs.notes.put_faults.Goals as goal

pub loop-index-init : goal.loop-index-init
loop-index-init g c = appends_none (g.W.Write.contents c.args.errors.now)

pub loop-index-preserved : goal.loop-index-preserved
loop-index-preserved g c =
    puts_more (g.W.Write.contents c.args.errors.now) (g.W.Write.contents c.loop-index.errors)
    (g.W.Write.contents c.put_end.new.errors) (Ok tt) c.loop-index.invariant c.in-Ok.ensures

pub returns-in-Err : goal.returns-in-Err
returns-in-Err g c =
    puts_more (g.W.Write.contents c.args.errors.now) (g.W.Write.contents c.loop-index.errors)
    (g.W.Write.contents c.put_end.new.errors) (Err c.in-Err.fault) c.loop-index.invariant c.in-Err.ensures
