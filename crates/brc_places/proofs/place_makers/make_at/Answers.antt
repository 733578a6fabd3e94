use Rattle.brc_places.proofs.Opening.{filled_so}
use Rattle.brc_places.proofs.place_makers.make_at.Goals as goal

pub returns-in-Ok-clause-made : goal.returns-in-Ok-clause-made
returns-in-Ok-clause-made g c = record {
  given = c.in-Ok.given;
  between = c.make_by.new.frame;
  did = c.in-Ok.ensures.did;
  placed = filled_so c.args.to c.make_by.new.frame c.fill.new.frame c.args.handles.now c.open.new.handles
      c.fill.new.handles c.in_ok-room.room c.in-Ok.given c.in_ok-room.ensures.opened c.fill.ensures.set
      c.fill.ensures.gone;
}
