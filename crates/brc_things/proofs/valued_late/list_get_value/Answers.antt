use Rattle.brc_things.specs.Changing.{RefusedPlace}
use Rattle.brc_things.specs.Plain_Lists.{plain_get}
use Rattle.brc_things.specs.Values.{LooksAtValue}
use Rattle.brc_things.proofs.Since_Law.{hands_out, locked_late}
use Rattle.brc_things.proofs.valued_late.list_get_value.Goals as goal

pub returns-clause-looked : goal.returns-clause-looked
returns-clause-looked g c =
    let late = c.begin_late-block.ensures in
    let locked = c.begin_late-block.new.frame in
    let up = c.look_at_value.ensures in (
      late.mid,
      late.waits,
      hands_out late.mid locked c.look_at_value.new.frame c.args.list.now.place c.begin_late-block.result
          (λ before k came. LooksAtValue before c.look_at_value.new.frame k (plain_get c.args.index) came)
          (λ before k fault. RefusedPlace before c.look_at_value.new.frame k (plain_get c.args.index) fault)
          c.look_at_value.result (locked_late c.args.frame.now locked c.args.list.now.place c.begin_late-block.result late)
          up.thread up.looked up.places up.refused,
    )
