use Rattle.brc_count.specs.block.Lent_Keys.{key_lent}
use Rattle.brc_things.specs.Putting.{HasPut, RefusedPut}
use Rattle.brc_things.proofs.Since_Law.{locked_late, takes_in}
use Rattle.brc_things.proofs.putting.dict_set.Goals as goal

pub returns-clause-put : goal.returns-clause-put
returns-clause-put g c =
    let late = c.begin_late-block.ensures in
    let locked = c.begin_late-block.new.frame in
    let k = c.args.dict.now.place in
    let up = c.set_locked.ensures in (
      late.mid,
      late.waits,
      takes_in late.mid locked c.set_locked.new.frame k c.begin_late-block.result
          (λ before j answer. HasPut before c.set_locked.new.frame j (key_lent c.args.key) c.args.value answer)
          (λ before j fault. RefusedPut before c.set_locked.new.frame j (key_lent c.args.key) c.args.value fault)
          c.set_locked.result (locked_late c.args.frame.now locked k c.begin_late-block.result late) up.thread up.put
          up.frame up.refused,
    )
