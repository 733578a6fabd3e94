use Rattle.std.proofs.Common.{refl}
use Rattle.brc_things.specs.Plain_Lists.{plain_send}
use Rattle.brc_things.specs.Plain_Values.{at_new}
use Rattle.brc_things.specs.Values.{PutsValueIn, RefusedPutting}
use Rattle.brc_things.proofs.Since_Law.{err_by, locked_late, ok_by, takes_in}
use Rattle.brc_things.proofs.valued_late.send_value.Goals as goal

pub returns-clause-put : goal.returns-clause-put
returns-clause-put g c =
    let late = c.begin_late-block.ensures in
    let locked = c.begin_late-block.new.frame in
    let up = c.put_value.ensures in (
      late.mid,
      late.waits,
      takes_in late.mid locked c.put_value.new.frame c.args.mailbox.now.place c.begin_late-block.result
          (λ before k answer. PutsValueIn before c.put_value.new.frame k c.args.none.now c.args.value (at_new plain_send))
          (λ before k fault. RefusedPutting before c.put_value.new.frame k c.args.value (at_new plain_send) fault)
          c.put_value.result (locked_late c.args.frame.now locked c.args.mailbox.now.place c.begin_late-block.result late)
          up.thread (ok_by c.put_value.result up.put (λ done by. by (at_new plain_send) (λ entry. refl))) up.frame (err_by c.put_value.result up.refused (λ handed by. by (at_new plain_send) (λ entry. refl))),
    )
