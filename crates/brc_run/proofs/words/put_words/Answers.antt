use Rattle.std.proofs.Common.{Ok, Err}
use Rattle.brc_run.proofs.Put_Some.{appends_none, puts_more}
use Rattle.brc_run.proofs.words.put_words.Goals as goal

pub loop-word-init : goal.loop-word-init
loop-word-init g c = appends_none (g.W.Write.contents c.args.errors.now)

pub loop-word-preserved : goal.loop-word-preserved
loop-word-preserved g c =
    puts_more (g.W.Write.contents c.args.errors.now) (g.W.Write.contents c.loop-word.errors)
    (g.W.Write.contents c.put_word.new.errors) (Ok tt) c.loop-word.invariant c.in-Ok.ensures

pub returns-in-Err : goal.returns-in-Err
returns-in-Err g c =
    puts_more (g.W.Write.contents c.args.errors.now) (g.W.Write.contents c.loop-word.errors)
    (g.W.Write.contents c.put_word.new.errors) (Err c.in-Err.fault) c.loop-word.invariant c.in-Err.ensures
