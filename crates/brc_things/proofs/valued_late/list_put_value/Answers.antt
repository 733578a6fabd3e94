use Rattle.brc_things.specs.Plain_Values.{plain_put_at}
use Rattle.brc_things.specs.Values.{HasPutValue, RefusedPutting}
use Rattle.brc_things.proofs.Since_Law.{locked_late, takes_in_placed}
use Rattle.brc_things.proofs.valued_late.list_put_value.Goals as goal

pub returns-clause-put : goal.returns-clause-put
returns-clause-put g c =
    let late = c.begin_late-block.ensures in
    let locked = c.begin_late-block.new.frame in
    let up = c.put_value_at.ensures in (
      late.mid,
      late.waits,
      takes_in_placed late.mid locked c.put_value_at.new.frame c.args.list.now.place c.begin_late-block.result
          (λ before k came. HasPutValue before c.put_value_at.new.frame k c.args.none.now c.put_value_at.new.none c.args.value
          (plain_put_at c.args.index) came)
          (λ before k fault. RefusedPutting before c.put_value_at.new.frame k c.args.value (plain_put_at c.args.index) fault)
          c.put_value_at.result (locked_late c.args.frame.now locked c.args.list.now.place c.begin_late-block.result late)
          up.thread up.put up.places up.refused,
    )
