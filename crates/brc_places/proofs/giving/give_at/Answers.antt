use Rattle.std.proofs.Common.{◌≡◌, ◌∙◌, Some}
use Rattle.brc_handles.specs.Handles.{slot}
use Rattle.brc_places.proofs.Opening.{as_before, filled_so, kept_stands}
use Rattle.brc_places.proofs.giving.give_at.Goals as goal

pub returns-in-Ok-clause-gave : goal.returns-in-Ok-clause-gave
returns-in-Ok-clause-gave g c =
    let found = filled_so c.args.to c.give_by.new.frame c.fill.new.frame c.args.handles.now c.open.new.handles
    c.fill.new.handles c.in_ok-room.room c.in-Ok.given c.in_ok-room.ensures.opened c.fill.ensures.set
    c.fill.ensures.gone in
    let there : Some c.in-Some.object.now ≡ slot c.args.handles.now c.args.container
    = ◌∙◌ {b = slot c.open.new.handles c.args.container} c.in-Some.ensures
    (c.in_ok-room.ensures.opened.same c.args.container) in
    rw (← there) (record {
      given = c.in-Ok.given;
      between = c.give_by.new.frame;
      did = c.in-Ok.ensures.did;
      placed = found;
    })

pub returns-in-Err-clause-stands : goal.returns-in-Err-clause-stands
returns-in-Err-clause-stands g c =
    kept_stands c.args.frame.now c.give_by.new.frame c.args.handles.now c.close.new.handles c.requires.each
    c.in-Err.ensures.keeps c.in-Err.ensures.unlocked
    (as_before c.args.to c.args.handles.now c.open.new.handles c.close.new.handles c.in_ok-room.room
    c.in_ok-room.ensures.opened c.close.ensures.closed)
