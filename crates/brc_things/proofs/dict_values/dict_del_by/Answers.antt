use Rattle.brc_count.specs.block.Lent_Keys.{key_lent}
use Rattle.brc_things.specs.Changing.{CallTakes, RefusedPlace}
use Rattle.brc_things.specs.Plain_Dicts.{plain_del}
use Rattle.brc_things.proofs.Since_Law.{locked_late, hands_out}
use Rattle.brc_things.proofs.dict_values.dict_del_by.Goals as goal

pub returns-clause-takes : goal.returns-clause-takes
returns-clause-takes g c =
    let late = c.begin_late-block.ensures in
    let locked = c.begin_late-block.new.frame in
    let k = c.args.dict.now.place in
    let up = c.del_locked.ensures in (
      late.mid,
      late.waits,
      hands_out late.mid locked c.del_locked.new.frame k c.begin_late-block.result
          (λ before j given. CallTakes before c.del_locked.new.frame j
          (plain_del {A = g.row.A.Denot} (key_lent c.args.key)) given)
          (λ before j fault. RefusedPlace before c.del_locked.new.frame j (plain_del {A = g.row.A.Denot} (key_lent c.args.key)) fault)
          c.del_locked.result (locked_late c.args.frame.now locked k c.begin_late-block.result late) up.thread up.takes
          up.places up.refused,
    )
