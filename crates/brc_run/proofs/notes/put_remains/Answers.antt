use Rattle.std.proofs.Common.{Ok, Err}
use Rattle.brc_run.proofs.Put_Some.{appends_none, puts_more}
use Rattle.brc_run.proofs.notes.put_remains.Goals as goal

pub loop-remain-init : goal.loop-remain-init
loop-remain-init g c = appends_none (g.W.Write.contents c.args.errors.now)

pub loop-remain-preserved : goal.loop-remain-preserved
loop-remain-preserved g c =
    puts_more (g.W.Write.contents c.args.errors.now) (g.W.Write.contents c.loop-remain.errors)
    (g.W.Write.contents c.put_remain.new.errors) (Ok tt) c.loop-remain.invariant c.in-Ok.ensures

pub returns-in-Err : goal.returns-in-Err
returns-in-Err g c =
    puts_more (g.W.Write.contents c.args.errors.now) (g.W.Write.contents c.loop-remain.errors)
    (g.W.Write.contents c.put_remain.new.errors) (Err c.in-Err.fault) c.loop-remain.invariant c.in-Err.ensures
