use Rattle.std.proofs.Common.{refl}
use Rattle.brc_things.specs.Plain_Lists.{plain_set}
use Rattle.brc_things.specs.Plain_Values.{at_old}
use Rattle.brc_things.specs.Values.{SwapsValueIn, RefusedPutting}
use Rattle.brc_things.proofs.Since_Law.{err_by, locked_late, ok_by, takes_in_placed}
use Rattle.brc_things.proofs.valued_late.list_set_value.Goals as goal

pub returns-clause-set : goal.returns-clause-set
returns-clause-set g c =
    let late = c.begin_late-block.ensures in
    let locked = c.begin_late-block.new.frame in
    let up = c.set_value.ensures in (
      late.mid,
      late.waits,
      takes_in_placed late.mid locked c.set_value.new.frame c.args.list.now.place c.begin_late-block.result
          (λ before k came. SwapsValueIn before c.set_value.new.frame k c.args.none.now c.set_value.new.none c.args.value
          (at_old (plain_set c.args.index)) came)
          (λ before k fault. RefusedPutting before c.set_value.new.frame k c.args.value (at_old (plain_set c.args.index)) fault)
          c.set_value.result (locked_late c.args.frame.now locked c.args.list.now.place c.begin_late-block.result late)
          up.thread (ok_by c.set_value.result up.swapped (λ came by. by (at_old (plain_set c.args.index)) (λ entry. refl))) up.places (err_by c.set_value.result up.refused (λ handed by. by (at_old (plain_set c.args.index)) (λ entry. refl))),
    )
