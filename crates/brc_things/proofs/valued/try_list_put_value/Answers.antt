use Rattle.brc_things.specs.Plain_Values.{plain_put_at}
use Rattle.brc_things.specs.Values.{HasPutValue, RefusedPutting}
use Rattle.brc_things.specs.Since.{JustLocked}
use Rattle.brc_things.proofs.Since_Law.{takes_in_placed}
use Rattle.brc_things.proofs.valued.try_list_put_value.Goals as goal

pub returns-clause-put : goal.returns-clause-put
returns-clause-put g c =
    let since : JustLocked c.args.frame.now c.begin.new.self c.args.list.now.place c.in-Some.block =
    record { began = c.in-Some.ensures.began; keeps = c.begin.ensures.keeps; frame = c.begin.ensures.frame } in
    let up = c.put_value_at.ensures in
    takes_in_placed c.args.frame.now c.begin.new.self c.put_value_at.new.frame c.args.list.now.place c.in-Some.block
    (λ before k came. HasPutValue before c.put_value_at.new.frame k c.args.none.now c.put_value_at.new.none c.args.value
    (plain_put_at c.args.index) came)
    (λ before k fault. RefusedPutting before c.put_value_at.new.frame k c.args.value (plain_put_at c.args.index) fault)
    c.put_value_at.result since up.thread up.put up.places up.refused
