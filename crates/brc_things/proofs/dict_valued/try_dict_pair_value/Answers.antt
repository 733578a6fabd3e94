use Rattle.brc_things.specs.Values.{LooksAtPair, RefusedPairAt}
use Rattle.brc_things.specs.Since.{JustLocked}
use Rattle.brc_things.proofs.Since_Law.{hands_out}
use Rattle.brc_things.proofs.dict_valued.try_dict_pair_value.Goals as goal

pub returns-clause-looked : goal.returns-clause-looked
returns-clause-looked g c =
    let since : JustLocked c.args.frame.now c.begin.new.self c.args.dict.now.place c.in-Some.block =
    record { began = c.in-Some.ensures.began; keeps = c.begin.ensures.keeps; frame = c.begin.ensures.frame } in
    let up = c.look_pair.ensures in
    hands_out c.args.frame.now c.begin.new.self c.look_pair.new.frame c.args.dict.now.place c.in-Some.block
    (λ before k pair. LooksAtPair before c.look_pair.new.frame k c.args.index pair)
    (λ before k fault. RefusedPairAt before c.look_pair.new.frame k c.args.index fault)
    c.look_pair.result since up.thread up.looked up.places up.refused
