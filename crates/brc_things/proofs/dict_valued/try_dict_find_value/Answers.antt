use Rattle.brc_count.specs.block.Lent_Keys.{key_lent}
use Rattle.brc_things.specs.Changing.{RefusedPlace}
use Rattle.brc_things.specs.Plain_Dicts.{plain_find}
use Rattle.brc_things.specs.Values.{LooksAtValue}
use Rattle.brc_things.specs.Since.{JustLocked}
use Rattle.brc_things.proofs.Since_Law.{hands_out}
use Rattle.brc_things.proofs.dict_valued.try_dict_find_value.Goals as goal

pub returns-clause-looked : goal.returns-clause-looked
returns-clause-looked g c =
    let since : JustLocked c.args.frame.now c.begin.new.self c.args.dict.now.place c.in-Some.block =
    record { began = c.in-Some.ensures.began; keeps = c.begin.ensures.keeps; frame = c.begin.ensures.frame } in
    let up = c.look_value.ensures in
    hands_out c.args.frame.now c.begin.new.self c.look_value.new.frame c.args.dict.now.place c.in-Some.block
    (λ before k came. LooksAtValue before c.look_value.new.frame k (plain_find {A = g.row.A.Denot} (key_lent c.args.key)) came)
    (λ before k fault. RefusedPlace before c.look_value.new.frame k (plain_find {A = g.row.A.Denot} (key_lent c.args.key)) fault)
    c.look_value.result since up.thread up.looked up.places up.refused
