use Rattle.brc_things.specs.Plain_Lists.{plain_get, plain_set}
use Rattle.brc_things.specs.Plain_Values.{at_old}
use Rattle.brc_things.specs.Still.{only_if, SwapsIfStill}
use Rattle.brc_things.specs.Values.{RefusedPutting}
use Rattle.brc_things.proofs.Since_Law.{locked_late, takes_in_placed}
use Rattle.brc_things.proofs.Still_Law.{owned_since}
use Rattle.brc_things.proofs.swap_if.list_swap_if.Goals as goal

pub returns-clause-swapped : goal.returns-clause-swapped
returns-clause-swapped g c =
    let late = c.begin_late-block.ensures in
    let locked = c.begin_late-block.new.frame in
    let up = c.list_swap.ensures in (
      late.mid,
      late.waits,
      takes_in_placed late.mid locked c.list_swap.new.frame c.args.list.now.place c.begin_late-block.result
          (λ before k did. SwapsIfStill before c.list_swap.new.frame k c.args.none.now c.list_swap.new.none c.args.value
          (only_if c.args.expected (plain_get c.args.index) (at_old (plain_set c.args.index))) did)
          (λ before k fault. RefusedPutting before c.list_swap.new.frame k c.args.value
          (only_if c.args.expected (plain_get c.args.index) (at_old (plain_set c.args.index))) fault)
          c.list_swap.result (locked_late c.args.frame.now locked c.args.list.now.place c.begin_late-block.result late)
          up.thread up.swapped up.places up.refused,
    )

pub returns-clause-owns : goal.returns-clause-owns
returns-clause-owns g c =
    owned_since c.args.frame.now c.begin_late-block.new.frame c.list_swap.new.frame c.list_swap.new.none c.args.value c.list_swap.result
    c.begin_late-block.ensures.keeps_all c.begin_late-block.ensures.frame_all c.list_swap.ensures.owns
