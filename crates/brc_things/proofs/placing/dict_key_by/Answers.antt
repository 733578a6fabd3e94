use Rattle.brc_count.specs.block.Lent_Keys.{key_lent}
use Rattle.brc_things.specs.Changing.{RefusedEntry}
use Rattle.brc_things.specs.Plain_Dicts.{plain_place}
use Rattle.brc_things.specs.Indexing.{ReadsUnlocked}
use Rattle.brc_things.proofs.Since_Law.{locked_late, looked}
use Rattle.brc_things.proofs.placing.dict_key_by.Goals as goal

pub returns-clause-reads : goal.returns-clause-reads
returns-clause-reads g c =
    let late = c.begin_late-block.ensures in
    let locked = c.begin_late-block.new.frame in
    let k = c.args.dict.now.place in
    let done = c.place_locked.ensures in (
      late.mid,
      late.waits,
      looked late.mid locked c.place_locked.new.frame k c.begin_late-block.result
          (λ before j place. ReadsUnlocked before c.place_locked.new.frame j
          (plain_place {A = g.row.A.Denot} (key_lent c.args.key)) place)
          (λ before j fault. RefusedEntry before c.place_locked.new.frame j
          (plain_place {A = g.row.A.Denot} (key_lent c.args.key)) fault)
          c.place_locked.result (locked_late c.args.frame.now locked k c.begin_late-block.result late) done.thread
          done.frame done.reads done.refused,
    )
