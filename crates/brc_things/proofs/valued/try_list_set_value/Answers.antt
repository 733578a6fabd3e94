use Rattle.std.proofs.Common.{refl}
use Rattle.brc_things.specs.Plain_Lists.{plain_set}
use Rattle.brc_things.specs.Plain_Values.{at_old}
use Rattle.brc_things.specs.Values.{SwapsValueIn, RefusedPutting}
use Rattle.brc_things.specs.Since.{JustLocked}
use Rattle.brc_things.proofs.Since_Law.{err_by, ok_by, takes_in_placed}
use Rattle.brc_things.proofs.valued.try_list_set_value.Goals as goal

pub returns-clause-set : goal.returns-clause-set
returns-clause-set g c =
    let since : JustLocked c.args.frame.now c.begin.new.self c.args.list.now.place c.in-Some.block =
    record { began = c.in-Some.ensures.began; keeps = c.begin.ensures.keeps; frame = c.begin.ensures.frame } in
    let up = c.set_value.ensures in
    takes_in_placed c.args.frame.now c.begin.new.self c.set_value.new.frame c.args.list.now.place c.in-Some.block
    (λ before k came. SwapsValueIn before c.set_value.new.frame k c.args.none.now c.set_value.new.none c.args.value
    (at_old (plain_set c.args.index)) came)
    (λ before k fault. RefusedPutting before c.set_value.new.frame k c.args.value (at_old (plain_set c.args.index)) fault)
    c.set_value.result since up.thread (ok_by c.set_value.result up.swapped (λ came by. by (at_old (plain_set c.args.index)) (λ entry. refl))) up.places (err_by c.set_value.result up.refused (λ handed by. by (at_old (plain_set c.args.index)) (λ entry. refl)))
