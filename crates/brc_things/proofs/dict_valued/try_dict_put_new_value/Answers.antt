use Rattle.brc_count.specs.block.Lent_Keys.{key_lent}
use Rattle.brc_things.specs.Plain_Dicts.{plain_put}
use Rattle.brc_things.specs.Values.{RefusedPutting}
use Rattle.brc_things.specs.Value_Calls.{PutsNew}
use Rattle.brc_things.specs.Since.{JustLocked}
use Rattle.brc_things.proofs.Since_Law.{takes_in_placed}
use Rattle.brc_things.proofs.dict_valued.try_dict_put_new_value.Goals as goal

pub returns-clause-put : goal.returns-clause-put
returns-clause-put g c =
    let since : JustLocked c.args.frame.now c.begin.new.self c.args.dict.now.place c.in-Some.block =
    record { began = c.in-Some.ensures.began; keeps = c.begin.ensures.keeps; frame = c.begin.ensures.frame } in
    let up = c.put_new_by.ensures in
    takes_in_placed c.args.frame.now c.begin.new.self c.put_new_by.new.frame c.args.dict.now.place c.in-Some.block
    (λ before k back. PutsNew before c.put_new_by.new.frame k (key_lent c.args.key) c.args.none.now c.args.value back)
    (λ before k fault. RefusedPutting before c.put_new_by.new.frame k c.args.value (plain_put {A = g.row.A.Denot} (key_lent c.args.key)) fault)
    c.put_new_by.result since up.thread up.put up.places up.refused
