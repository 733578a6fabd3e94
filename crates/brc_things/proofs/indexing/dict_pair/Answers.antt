use Rattle.brc_things.specs.Changing.{RefusedPlace}
use Rattle.brc_things.specs.Plain_Dicts.{plain_value_at}
use Rattle.brc_things.specs.Indexing.{SharesPair}
use Rattle.brc_things.proofs.Since_Law.{locked_late, hands_out}
use Rattle.brc_things.proofs.indexing.dict_pair.Goals as goal

pub returns-clause-shares : goal.returns-clause-shares
returns-clause-shares g c =
    let late = c.begin_late-block.ensures in
    let locked = c.begin_late-block.new.frame in
    let k = c.args.dict.now.place in
    let up = c.pair_locked.ensures in (
      late.mid,
      late.waits,
      hands_out late.mid locked c.pair_locked.new.frame k c.begin_late-block.result
          (λ before j pair. SharesPair before c.pair_locked.new.frame j c.args.index pair)
          (λ before j fault. RefusedPlace before c.pair_locked.new.frame j
          (plain_value_at g.row.A.Denot c.args.index) fault)
          c.pair_locked.result (locked_late c.args.frame.now locked k c.begin_late-block.result late) up.thread
          up.shares up.places up.refused,
    )
