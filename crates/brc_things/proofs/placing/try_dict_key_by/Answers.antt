use Rattle.brc_count.specs.block.Lent_Keys.{key_lent}
use Rattle.brc_things.specs.Changing.{RefusedEntry}
use Rattle.brc_things.specs.Plain_Dicts.{plain_place}
use Rattle.brc_things.specs.Indexing.{ReadsUnlocked}
use Rattle.brc_things.specs.Since.{JustLocked}
use Rattle.brc_things.proofs.Since_Law.{looked}
use Rattle.brc_things.proofs.placing.try_dict_key_by.Goals as goal

pub returns-clause-reads : goal.returns-clause-reads
returns-clause-reads g c =
    let since : JustLocked c.args.frame.now c.begin.new.self c.args.dict.now.place c.in-Some.block =
    record { began = c.in-Some.ensures.began; keeps = c.begin.ensures.keeps; frame = c.begin.ensures.frame } in
    let done = c.place_locked.ensures in
    looked c.args.frame.now c.begin.new.self c.place_locked.new.frame c.args.dict.now.place c.in-Some.block
    (λ before k place. ReadsUnlocked before c.place_locked.new.frame k
    (plain_place {A = g.row.A.Denot} (key_lent c.args.key)) place)
    (λ before k fault. RefusedEntry before c.place_locked.new.frame k
    (plain_place {A = g.row.A.Denot} (key_lent c.args.key)) fault)
    c.place_locked.result since done.thread done.frame done.reads done.refused
