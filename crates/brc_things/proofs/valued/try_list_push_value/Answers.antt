use Rattle.std.proofs.Common.{refl}
use Rattle.brc_things.specs.Plain_Lists.{plain_push}
use Rattle.brc_things.specs.Plain_Values.{at_new}
use Rattle.brc_things.specs.Values.{PutsValueIn, RefusedPutting}
use Rattle.brc_things.specs.Since.{JustLocked}
use Rattle.brc_things.proofs.Since_Law.{err_by, ok_by, takes_in}
use Rattle.brc_things.proofs.valued.try_list_push_value.Goals as goal

pub returns-clause-put : goal.returns-clause-put
returns-clause-put g c =
    let since : JustLocked c.args.frame.now c.begin.new.self c.args.list.now.place c.in-Some.block =
    record { began = c.in-Some.ensures.began; keeps = c.begin.ensures.keeps; frame = c.begin.ensures.frame } in
    let up = c.put_value.ensures in
    takes_in c.args.frame.now c.begin.new.self c.put_value.new.frame c.args.list.now.place c.in-Some.block
    (λ before k answer. PutsValueIn before c.put_value.new.frame k c.args.none.now c.args.value (at_new plain_push))
    (λ before k fault. RefusedPutting before c.put_value.new.frame k c.args.value (at_new plain_push) fault)
    c.put_value.result since up.thread (ok_by c.put_value.result up.put (λ done by. by (at_new plain_push) (λ entry. refl))) up.frame (err_by c.put_value.result up.refused (λ handed by. by (at_new plain_push) (λ entry. refl)))
