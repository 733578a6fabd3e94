use Rattle.brc_count.specs.block.Lent_Keys.{key_lent}
use Rattle.brc_things.specs.Plain_Dicts.{plain_put}
use Rattle.brc_things.specs.Values.{RefusedPutting}
use Rattle.brc_things.specs.Value_Calls.{PutsNew}
use Rattle.brc_things.proofs.Since_Law.{locked_late, takes_in_placed}
use Rattle.brc_things.proofs.dict_valued.dict_put_new_value.Goals as goal

pub returns-clause-put : goal.returns-clause-put
returns-clause-put g c =
    let late = c.begin_late-block.ensures in
    let locked = c.begin_late-block.new.frame in
    let up = c.put_new_by.ensures in (
      late.mid,
      late.waits,
      takes_in_placed late.mid locked c.put_new_by.new.frame c.args.dict.now.place c.begin_late-block.result
          (λ before k back. PutsNew before c.put_new_by.new.frame k (key_lent c.args.key) c.args.none.now c.args.value back)
          (λ before k fault. RefusedPutting before c.put_new_by.new.frame k c.args.value (plain_put {A = g.row.A.Denot} (key_lent c.args.key)) fault)
          c.put_new_by.result (locked_late c.args.frame.now locked c.args.dict.now.place c.begin_late-block.result late)
          up.thread up.put up.places up.refused,
    )
