use Rattle.brc_things.specs.Putting.{HasPut, RefusedPut}
use Rattle.brc_things.specs.Since.{JustLocked}
use Rattle.brc_things.proofs.Since_Law.{takes_in}
use Rattle.brc_things.proofs.putting.try_dict_put.Goals as goal

pub returns-clause-put : goal.returns-clause-put
returns-clause-put g c =
    let since : JustLocked c.args.frame.now c.begin.new.self c.args.dict.now.place c.in-Some.block =
    record { began = c.in-Some.ensures.began; keeps = c.begin.ensures.keeps; frame = c.begin.ensures.frame } in
    let up = c.put_locked.ensures in
    takes_in c.args.frame.now c.begin.new.self c.put_locked.new.frame c.args.dict.now.place c.in-Some.block
    (λ before k answer. HasPut before c.put_locked.new.frame k c.args.key c.args.value answer)
    (λ before k fault. RefusedPut before c.put_locked.new.frame k c.args.key c.args.value fault)
    c.put_locked.result since up.thread up.put up.frame up.refused
