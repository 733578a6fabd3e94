use Rattle.brc_words.proofs.Cells.{cells_there}
use Rattle.brc_count.specs.block.Payload.{noted_of}
use Rattle.brc_things.specs.Indexing.{IsAt}
use Rattle.brc_things.specs.Plain_Dicts.{plain_value_at}
use Rattle.brc_things.proofs.Indexed.{entry_at, key_there, value_there}
use Rattle.brc_things.proofs.Locked.{stood_placed, found_placed, entry_found, shares_since}
use Rattle.brc_things.proofs.indexing.pair_locked.Goals as goal

pub up_entry-given-requires-clause-entry : goal.up_entry-given-requires-clause-entry
up_entry-given-requires-clause-entry g c =
    entry_found c.pair_and_place.new.frame c.args.block.1 c.args.index c.in-Ok.entry.cell
    (found_placed c.args.frame.now c.pair_and_place.new.frame _ c.pair_and_place.ensures.same c.requires.found)
    (cells_there (noted_of c.args.block.1) c.args.index c.in-Ok.entry
    (entry_at c.args.block.1 c.args.index c.in-Ok.key c.in-Ok.entry c.in-Ok.ensures.there))

pub returns-in-Ok-clause-shares : goal.returns-in-Ok-clause-shares
returns-in-Ok-clause-shares g c = λ before k since.
    let there : IsAt c.args.block.1 c.args.index c.in-Ok.key c.in-Ok.entry = c.in-Ok.ensures.there in
    let was = stood_placed before c.args.frame.now c.pair_and_place.new.frame k c.args.block since
    c.pair_and_place.ensures.same in
    record {
      value = shares_since before c.pair_and_place.new.frame c.up_entry-given.new.self c.end_keep-in-Ok.new.self k
          c.args.block
          (plain_value_at g.row.A.Denot c.args.index) c.args.index c.in-Ok.entry c.up_entry-given.result
          was c.up_entry-given.ensures.given c.up_entry-given.ensures.heap c.end_keep-in-Ok.ensures.ended
          c.end_keep-in-Ok.ensures.frame
          (entry_at c.args.block.1 c.args.index c.in-Ok.key c.in-Ok.entry there)
          (value_there c.args.block.1 c.args.index c.in-Ok.key c.in-Ok.entry there);
      key = key_there c.args.block.1 c.args.index c.in-Ok.key c.in-Ok.entry there;
    }
