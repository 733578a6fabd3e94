use Rattle.brc_things.specs.Putting.{HasPut, RefusedPut}
use Rattle.brc_things.proofs.Since_Law.{locked_late, takes_in}
use Rattle.brc_things.proofs.putting.dict_put.Goals as goal

pub returns-clause-put : goal.returns-clause-put
returns-clause-put g c =
    let late = c.begin_late-block.ensures in
    let locked = c.begin_late-block.new.frame in
    let k = c.args.dict.now.place in
    let up = c.put_locked.ensures in (
      late.mid,
      late.waits,
      takes_in late.mid locked c.put_locked.new.frame k c.begin_late-block.result
          (λ before j answer. HasPut before c.put_locked.new.frame j c.args.key c.args.value answer)
          (λ before j fault. RefusedPut before c.put_locked.new.frame j c.args.key c.args.value fault)
          c.put_locked.result (locked_late c.args.frame.now locked k c.begin_late-block.result late) up.thread up.put
          up.frame up.refused,
    )
