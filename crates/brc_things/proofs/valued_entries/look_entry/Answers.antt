use Rattle.std.proofs.Common.{sym, ◌∙◌, ap}
use Rattle.std.specs.Result.{is_ok}
use Rattle.brc_count.specs.block.Payload.{noted_of}
use Rattle.brc_count.specs.law.declared.world.event.Change.TheVariants.{Keep}
use Rattle.brc_count.specs.table.Shown.{contents_of}
use Rattle.brc_words.proofs.Cells.{cells_there}
use Rattle.brc_things.proofs.Locked.{stood, stood_placed, found_placed, entry_found}
use Rattle.brc_things.proofs.Locked.{refused_for_want, refused_place, shares_since, changes_since}
use Rattle.brc_things.proofs.valued_entries.look_entry.Goals as goal

pub returns-then-entry-eq0-clause-looked : goal.returns-then-entry-eq0-clause-looked
returns-then-entry-eq0-clause-looked g c = λ call finds before k since.
    record {
      found = contents_of c.args.block.1;
      entry = c.args.entry;
      plain = finds;
      none = c.if-entry-eq0.true;
      said = sym c.note.ensures;
      looks = changes_since before c.args.frame.now c.end_keep.new.self k c.args.block c.args.block.1 Keep
          (stood before c.args.frame.now k c.args.block since) c.end_keep.ensures.ended;
      places = record {
        places = λ j. c.end_keep.ensures.frame.places j ∙ since.frame.places j;
        len = c.end_keep.ensures.frame.len ∙ since.frame.len;
        next = c.end_keep.ensures.frame.next ∙ since.frame.next;
      };
    }

pub returns-in-Err-clause-refused : goal.returns-in-Err-clause-refused
returns-in-Err-clause-refused g c = λ call finds before k since.
    let was = stood_placed before c.args.frame.now c.place.new.self k c.args.block since c.place.ensures.same in
    refused_place before c.args.frame.now c.end_keep-in-Err.new.self k call c.in-Err.fault
    since.frame.len c.in-Err.ensures.refused
    (refused_for_want before c.place.new.self c.end_keep-in-Err.new.self k c.args.block call was
    c.end_keep-in-Err.ensures.ended (ap is_ok finds))

pub up_entry-more-requires-clause-entry : goal.up_entry-more-requires-clause-entry
up_entry-more-requires-clause-entry g c =
    entry_found c.place.new.self c.args.block.1 c.args.index c.args.entry.cell
    (found_placed c.args.frame.now c.place.new.self _ c.place.ensures.same c.requires.has.found)
    (cells_there (noted_of c.args.block.1) c.args.index c.args.entry c.requires.there)

pub returns-clause-looked : goal.returns-clause-looked
returns-clause-looked g c = λ call finds before k since. (
  shares_since before c.place.new.self c.up_entry-more.new.self c.end_keep-2.new.self k c.args.block
      call c.args.index c.args.entry c.up_entry-more.result
      (stood_placed before c.args.frame.now c.place.new.self k c.args.block since c.place.ensures.same)
      c.up_entry-more.ensures.given c.up_entry-more.ensures.heap c.end_keep-2.ensures.ended
      c.end_keep-2.ensures.frame c.requires.there finds,
  c.if-entry-eq0.false,
  sym c.note-2.ensures,
)
