use Rattle.brc_things.specs.Changing.{RefusedPlace}
use Rattle.brc_things.specs.Plain_Lists.{plain_get}
use Rattle.brc_things.specs.Values.{LooksAtValue}
use Rattle.brc_things.specs.Since.{JustLocked}
use Rattle.brc_things.proofs.Since_Law.{hands_out}
use Rattle.brc_things.proofs.valued.try_list_get_value.Goals as goal

pub returns-clause-looked : goal.returns-clause-looked
returns-clause-looked g c =
    let since : JustLocked c.args.frame.now c.begin.new.self c.args.list.now.place c.in-Some.block =
    record { began = c.in-Some.ensures.began; keeps = c.begin.ensures.keeps; frame = c.begin.ensures.frame } in
    let up = c.look_at_value.ensures in
    hands_out c.args.frame.now c.begin.new.self c.look_at_value.new.frame c.args.list.now.place c.in-Some.block
    (λ before k came. LooksAtValue before c.look_at_value.new.frame k (plain_get c.args.index) came)
    (λ before k fault. RefusedPlace before c.look_at_value.new.frame k (plain_get c.args.index) fault)
    c.look_at_value.result since up.thread up.looked up.places up.refused
