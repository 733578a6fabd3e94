use Rattle.std.proofs.Common.{rules}
use Rattle.brc_count.specs.law.living.Quiet.{NoItem}
use Rattle.brc_count.proofs.Quiet.{let_go_quietly}
use Rattle.brc_handles.proofs.handles.Handles.release.Goals as goal

pub returns-in-None-clause-quiet : goal.returns-in-None-clause-quiet
returns-in-None-clause-quiet g c = NoItem

pub returns-in-Some-clause-quiet : goal.returns-in-Some-clause-quiet
returns-in-Some-clause-quiet g c = let_go_quietly c.args.frame.now c.release.new.self c.in-Some.handle
    (search rules) c.release.ensures.released
