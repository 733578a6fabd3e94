use Rattle.brc_things.specs.Plain_Lists.{plain_get, plain_set}
use Rattle.brc_things.specs.Plain_Values.{at_old}
use Rattle.brc_things.specs.Since.{JustLocked}
use Rattle.brc_things.specs.Still.{only_if, SwapsIfStill}
use Rattle.brc_things.specs.Values.{RefusedPutting}
use Rattle.brc_things.proofs.Since_Law.{takes_in_placed}
use Rattle.brc_things.proofs.Still_Law.{owned_since}
use Rattle.brc_things.proofs.swap_if.try_list_swap_if.Goals as goal

pub returns-clause-swapped : goal.returns-clause-swapped
returns-clause-swapped g c =
    let since : JustLocked c.args.frame.now c.begin.new.self c.args.list.now.place c.in-Some.block =
    record { began = c.in-Some.ensures.began; keeps = c.begin.ensures.keeps; frame = c.begin.ensures.frame } in
    let up = c.list_swap.ensures in
    takes_in_placed c.args.frame.now c.begin.new.self c.list_swap.new.frame c.args.list.now.place c.in-Some.block
    (λ before k did. SwapsIfStill before c.list_swap.new.frame k c.args.none.now c.list_swap.new.none c.args.value
    (only_if c.args.expected (plain_get c.args.index) (at_old (plain_set c.args.index))) did)
    (λ before k fault. RefusedPutting before c.list_swap.new.frame k c.args.value
    (only_if c.args.expected (plain_get c.args.index) (at_old (plain_set c.args.index))) fault)
    c.list_swap.result since up.thread up.swapped up.places up.refused

pub returns-clause-owns : goal.returns-clause-owns
returns-clause-owns g c =
    owned_since c.args.frame.now c.begin.new.self c.list_swap.new.frame c.list_swap.new.none c.args.value c.list_swap.result
    c.begin.ensures.keeps c.begin.ensures.frame c.list_swap.ensures.owns
