use Rattle.brc_count.specs.block.Lent_Keys.{key_lent}
use Rattle.brc_things.specs.Changing.{RefusedPlace}
use Rattle.brc_things.specs.Plain_Dicts.{plain_del}
use Rattle.brc_things.specs.Values.{TakesOutValue}
use Rattle.brc_things.proofs.Since_Law.{hands_out, locked_late}
use Rattle.brc_things.proofs.dict_valued.dict_del_value.Goals as goal

pub returns-clause-takes : goal.returns-clause-takes
returns-clause-takes g c =
    let late = c.begin_late-block.ensures in
    let locked = c.begin_late-block.new.frame in
    let up = c.del_value.ensures in (
      late.mid,
      late.waits,
      hands_out late.mid locked c.del_value.new.frame c.args.dict.now.place c.begin_late-block.result
          (λ before k came. TakesOutValue before c.del_value.new.frame k (plain_del {A = g.row.A.Denot} (key_lent c.args.key)) came)
          (λ before k fault. RefusedPlace before c.del_value.new.frame k (plain_del {A = g.row.A.Denot} (key_lent c.args.key)) fault)
          c.del_value.result (locked_late c.args.frame.now locked c.args.dict.now.place c.begin_late-block.result late)
          up.thread up.takes up.places up.refused,
    )
