use Rattle.std.proofs.Common.{refl, subst, sym, ap, ◌∙◌, length, Ok}
use Rattle.brc_words.proofs.Cells.{cells_long}
use Rattle.brc_count.specs.block.Payload.{noted_of, entries_of}
use Rattle.brc_count.specs.table.Shown.{contents_of}
use Rattle.brc_things.specs.Indexing.{IsAt, NoPair}
use Rattle.brc_things.specs.Plain_Dicts.{plain_value_at}
use Rattle.brc_things.proofs.Indexed.{value_there}
use Rattle.brc_things.proofs.Locked.{stood}
use Rattle.brc_things.proofs.Valued_Pairs.{looks_at_pair, pair_unfound, pair_unplaced}
use Rattle.brc_things.proofs.dict_valued.look_pair.Goals as goal

pub returns-in-Err-clause-refused : goal.returns-in-Err-clause-refused
returns-in-Err-clause-refused g c = λ before k since.
    pair_unfound before c.args.frame.now c.end_keep.new.self k c.args.block c.args.index c.in-Err.fault
    (stood before c.args.frame.now k c.args.block since) c.end_keep.ensures.ended
    (subst (λ p. NoPair p c.args.index c.in-Err.fault) c.payload-2.ensures c.in-Err.ensures.refused)

pub returns-in-Ok-look_entry-clause-looked : goal.returns-in-Ok-look_entry-clause-looked
returns-in-Ok-look_entry-clause-looked g c = λ before k since.
    let there = subst (λ p. IsAt p c.args.index c.in-Ok.key.now c.in-Ok.entry) c.payload-2.ensures
    c.in-Ok.ensures.there in
    let copied = rw c.in-Ok-key.is at c.copy.ensures in
    rw copied
    (looks_at_pair before c.look_entry.new.frame k c.args.index c.args.block.1 c.in-Ok.key.now c.in-Ok.entry
    c.len-of.result c.in-Ok-look_entry.value there
    (sym (c.len-of.ensures ∙ ap (λ p. length (entries_of p)) c.payload.ensures ∙ cells_long (noted_of c.args.block.1)))
    (c.in-Ok-look_entry.ensures.looked (λ found. Ok (c.in-Ok.entry, contents_of c.args.block.1)) refl before k since))

pub returns-in-Err-look_entry-clause-refused : goal.returns-in-Err-look_entry-clause-refused
returns-in-Err-look_entry-clause-refused g c = λ before k since.
    let there = subst (λ p. IsAt p c.args.index c.in-Ok.key.now c.in-Ok.entry) c.payload-2.ensures
    c.in-Ok.ensures.there in
    pair_unplaced before c.look_entry.new.frame k c.args.index c.in-Err-look_entry.fault
    (c.in-Err-look_entry.ensures.refused (plain_value_at g.row.A.Denot c.args.index)
    (value_there c.args.block.1 c.args.index c.in-Ok.key.now c.in-Ok.entry there) before k since)
