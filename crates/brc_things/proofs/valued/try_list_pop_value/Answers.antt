use Rattle.brc_count.specs.Locking.{contents_found}
use Rattle.brc_things.specs.Changing.{RefusedPlace}
use Rattle.brc_things.specs.Plain_Lists.{plain_pop}
use Rattle.brc_things.specs.Values.{TakesOutValue}
use Rattle.brc_things.proofs.Rows_Law.{pop_before}
use Rattle.brc_things.specs.Since.{JustLocked}
use Rattle.brc_things.proofs.Since_Law.{err_by, hands_out, ok_by}
use Rattle.brc_things.proofs.valued.try_list_pop_value.Goals as goal

pub returns-clause-takes : goal.returns-clause-takes
returns-clause-takes g c =
    let since : JustLocked c.args.frame.now c.begin.new.self c.args.list.now.place c.in-Some.block =
    record { began = c.in-Some.ensures.began; keeps = c.begin.ensures.keeps; frame = c.begin.ensures.frame } in
    let same = pop_before (contents_found c.begin.new.self) c.in-Some.block.1 c.last_place-last.result
    c.in-Some.ensures.began.found (rw c.payload.ensures at c.last_place-last.ensures) in
    let up = c.take_out_value.ensures in
    hands_out c.args.frame.now c.begin.new.self c.take_out_value.new.frame c.args.list.now.place c.in-Some.block
    (λ before k came. TakesOutValue before c.take_out_value.new.frame k plain_pop came)
    (λ before k fault. RefusedPlace before c.take_out_value.new.frame k plain_pop fault)
    c.take_out_value.result since up.thread (ok_by c.take_out_value.result up.taken (λ came by. by plain_pop same)) up.places (err_by c.take_out_value.result up.refused (λ fault by. by plain_pop same))
