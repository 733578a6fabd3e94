use Rattle.brc_run.proofs.Put_Some.{puts_more}
use Rattle.brc_run.proofs.notes.put_notes.Goals as goal

pub returns : goal.returns
returns g c =
    puts_more (g.W.Write.contents c.args.errors.now) (g.W.Write.contents c.put_faults.new.errors)
    (g.W.Write.contents c.put_remains.new.errors) c.put_remains.result c.in-Ok.ensures c.put_remains.ensures
