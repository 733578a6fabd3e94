use Rattle.brc_count.specs.block.Lent_Keys.{key_lent}
use Rattle.brc_things.specs.Plain_Dicts.{plain_find, plain_put}
use Rattle.brc_things.specs.Since.{JustLocked}
use Rattle.brc_things.specs.Still.{only_if, SwapsIfStill}
use Rattle.brc_things.specs.Values.{RefusedPutting}
use Rattle.brc_things.proofs.Since_Law.{takes_in_placed}
use Rattle.brc_things.proofs.Still_Law.{owned_since}
use Rattle.brc_things.proofs.swap_if.try_dict_swap_if.Goals as goal

pub returns-clause-swapped : goal.returns-clause-swapped
returns-clause-swapped g c =
    let since : JustLocked c.args.frame.now c.begin.new.self c.args.dict.now.place c.in-Some.block =
    record { began = c.in-Some.ensures.began; keeps = c.begin.ensures.keeps; frame = c.begin.ensures.frame } in
    let up = c.dict_swap.ensures in
    takes_in_placed c.args.frame.now c.begin.new.self c.dict_swap.new.frame c.args.dict.now.place c.in-Some.block
    (λ before k did. SwapsIfStill before c.dict_swap.new.frame k c.args.none.now c.dict_swap.new.none c.args.value
    (only_if c.args.expected (plain_find {A = g.row.A.Denot} (key_lent c.args.key)) (plain_put {A = g.row.A.Denot} (key_lent c.args.key))) did)
    (λ before k fault. RefusedPutting before c.dict_swap.new.frame k c.args.value
    (only_if c.args.expected (plain_find {A = g.row.A.Denot} (key_lent c.args.key)) (plain_put {A = g.row.A.Denot} (key_lent c.args.key))) fault)
    c.dict_swap.result since up.thread up.swapped up.places up.refused

pub returns-clause-owns : goal.returns-clause-owns
returns-clause-owns g c =
    owned_since c.args.frame.now c.begin.new.self c.dict_swap.new.frame c.dict_swap.new.none c.args.value c.dict_swap.result
    c.begin.ensures.keeps c.begin.ensures.frame c.dict_swap.ensures.owns
