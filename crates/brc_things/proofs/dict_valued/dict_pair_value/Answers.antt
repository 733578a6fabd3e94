use Rattle.brc_things.specs.Values.{LooksAtPair, RefusedPairAt}
use Rattle.brc_things.proofs.Since_Law.{hands_out, locked_late}
use Rattle.brc_things.proofs.dict_valued.dict_pair_value.Goals as goal

pub returns-clause-looked : goal.returns-clause-looked
returns-clause-looked g c =
    let late = c.begin_late-block.ensures in
    let locked = c.begin_late-block.new.frame in
    let up = c.look_pair.ensures in (
      late.mid,
      late.waits,
      hands_out late.mid locked c.look_pair.new.frame c.args.dict.now.place c.begin_late-block.result
          (λ before k pair. LooksAtPair before c.look_pair.new.frame k c.args.index pair)
          (λ before k fault. RefusedPairAt before c.look_pair.new.frame k c.args.index fault)
          c.look_pair.result (locked_late c.args.frame.now locked c.args.dict.now.place c.begin_late-block.result late)
          up.thread up.looked up.places up.refused,
    )
