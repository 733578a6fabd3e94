use Rattle.std.proofs.Common.{refl}
use Rattle.brc_things.specs.Changing.{RefusedPlace}
use Rattle.brc_things.specs.Plain_Lists.{plain_take_at}
use Rattle.brc_things.specs.Values.{TakesOutValue}
use Rattle.brc_things.specs.Since.{JustLocked}
use Rattle.brc_things.proofs.Since_Law.{err_by, hands_out, ok_by}
use Rattle.brc_things.proofs.valued.try_list_take_value.Goals as goal

pub returns-clause-takes : goal.returns-clause-takes
returns-clause-takes g c =
    let since : JustLocked c.args.frame.now c.begin.new.self c.args.list.now.place c.in-Some.block =
    record { began = c.in-Some.ensures.began; keeps = c.begin.ensures.keeps; frame = c.begin.ensures.frame } in
    let up = c.take_out_value.ensures in
    hands_out c.args.frame.now c.begin.new.self c.take_out_value.new.frame c.args.list.now.place c.in-Some.block
    (λ before k came. TakesOutValue before c.take_out_value.new.frame k (plain_take_at c.args.index) came)
    (λ before k fault. RefusedPlace before c.take_out_value.new.frame k (plain_take_at c.args.index) fault)
    c.take_out_value.result since up.thread (ok_by c.take_out_value.result up.taken (λ came by. by (plain_take_at c.args.index) refl)) up.places (err_by c.take_out_value.result up.refused (λ fault by. by (plain_take_at c.args.index) refl))
