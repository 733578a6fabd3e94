use Rattle.brc_things.specs.Changing.{RefusedEntry}
use Rattle.brc_things.specs.Plain_Dicts.{plain_key_at}
use Rattle.brc_things.specs.Indexing.{ReadsUnlocked}
use Rattle.brc_things.specs.Since.{JustLocked}
use Rattle.brc_things.proofs.Since_Law.{looked}
use Rattle.brc_things.proofs.indexing.try_dict_key.Goals as goal

pub returns-clause-reads : goal.returns-clause-reads
returns-clause-reads g c =
    let since : JustLocked c.args.frame.now c.begin.new.self c.args.dict.now.place c.in-Some.block =
    record { began = c.in-Some.ensures.began; keeps = c.begin.ensures.keeps; frame = c.begin.ensures.frame } in
    let done = c.key_locked.ensures in
    looked c.args.frame.now c.begin.new.self c.key_locked.new.frame c.args.dict.now.place c.in-Some.block
    (λ before k key. ReadsUnlocked before c.key_locked.new.frame k (plain_key_at c.args.index) key)
    (λ before k fault. RefusedEntry before c.key_locked.new.frame k
    (plain_key_at {A = g.row.A.Denot} c.args.index) fault)
    c.key_locked.result since done.thread done.frame done.reads done.refused
