use Rattle.brc_things.specs.Changing.{RefusedEntry}
use Rattle.brc_things.specs.Plain_Dicts.{plain_key_at}
use Rattle.brc_things.specs.Indexing.{ReadsUnlocked}
use Rattle.brc_things.proofs.Since_Law.{locked_late, looked}
use Rattle.brc_things.proofs.indexing.dict_key.Goals as goal

pub returns-clause-reads : goal.returns-clause-reads
returns-clause-reads g c =
    let late = c.begin_late-block.ensures in
    let locked = c.begin_late-block.new.frame in
    let k = c.args.dict.now.place in
    let done = c.key_locked.ensures in (
      late.mid,
      late.waits,
      looked late.mid locked c.key_locked.new.frame k c.begin_late-block.result
          (λ before j key. ReadsUnlocked before c.key_locked.new.frame j (plain_key_at c.args.index) key)
          (λ before j fault. RefusedEntry before c.key_locked.new.frame j
          (plain_key_at {A = g.row.A.Denot} c.args.index) fault)
          c.key_locked.result (locked_late c.args.frame.now locked k c.begin_late-block.result late) done.thread
          done.frame done.reads done.refused,
    )
