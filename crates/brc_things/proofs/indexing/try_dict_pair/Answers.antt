use Rattle.brc_things.specs.Changing.{RefusedPlace}
use Rattle.brc_things.specs.Plain_Dicts.{plain_value_at}
use Rattle.brc_things.specs.Indexing.{SharesPair}
use Rattle.brc_things.specs.Since.{JustLocked}
use Rattle.brc_things.proofs.Since_Law.{hands_out}
use Rattle.brc_things.proofs.indexing.try_dict_pair.Goals as goal

pub returns-clause-shares : goal.returns-clause-shares
returns-clause-shares g c =
    let since : JustLocked c.args.frame.now c.begin.new.self c.args.dict.now.place c.in-Some.block =
    record { began = c.in-Some.ensures.began; keeps = c.begin.ensures.keeps; frame = c.begin.ensures.frame } in
    let up = c.pair_locked.ensures in
    hands_out c.args.frame.now c.begin.new.self c.pair_locked.new.frame c.args.dict.now.place c.in-Some.block
    (λ before k pair. SharesPair before c.pair_locked.new.frame k c.args.index pair)
    (λ before k fault. RefusedPlace before c.pair_locked.new.frame k (plain_value_at g.row.A.Denot c.args.index) fault)
    c.pair_locked.result since up.thread up.shares up.places up.refused
