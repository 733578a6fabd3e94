use Rattle.brc_count.specs.block.Lent_Keys.{key_lent}
use Rattle.brc_things.specs.Plain_Dicts.{plain_find, plain_put}
use Rattle.brc_things.specs.Still.{only_if, SwapsIfStill}
use Rattle.brc_things.specs.Values.{RefusedPutting}
use Rattle.brc_things.proofs.Since_Law.{locked_late, takes_in_placed}
use Rattle.brc_things.proofs.Still_Law.{owned_since}
use Rattle.brc_things.proofs.swap_if.dict_swap_if.Goals as goal

pub returns-clause-swapped : goal.returns-clause-swapped
returns-clause-swapped g c =
    let late = c.begin_late-block.ensures in
    let locked = c.begin_late-block.new.frame in
    let up = c.dict_swap.ensures in (
      late.mid,
      late.waits,
      takes_in_placed late.mid locked c.dict_swap.new.frame c.args.dict.now.place c.begin_late-block.result
          (λ before k did. SwapsIfStill before c.dict_swap.new.frame k c.args.none.now c.dict_swap.new.none c.args.value
          (only_if c.args.expected (plain_find {A = g.row.A.Denot} (key_lent c.args.key)) (plain_put {A = g.row.A.Denot} (key_lent c.args.key))) did)
          (λ before k fault. RefusedPutting before c.dict_swap.new.frame k c.args.value
          (only_if c.args.expected (plain_find {A = g.row.A.Denot} (key_lent c.args.key)) (plain_put {A = g.row.A.Denot} (key_lent c.args.key))) fault)
          c.dict_swap.result (locked_late c.args.frame.now locked c.args.dict.now.place c.begin_late-block.result late)
          up.thread up.swapped up.places up.refused,
    )

pub returns-clause-owns : goal.returns-clause-owns
returns-clause-owns g c =
    owned_since c.args.frame.now c.begin_late-block.new.frame c.dict_swap.new.frame c.dict_swap.new.none c.args.value c.dict_swap.result
    c.begin_late-block.ensures.keeps_all c.begin_late-block.ensures.frame_all c.dict_swap.ensures.owns
