use Rattle.std.proofs.Common.{Some, refl}
use Rattle.brc_places.specs.Placing.{ValueRefused}
use Rattle.brc_places.proofs.Found.{back_again, filled_again, found_beside, was_there}
use Rattle.brc_places.proofs.taking.try_take_at.Goals as goal

pub returns-in_default-get-clause-unchanged : goal.returns-in_default-get-clause-unchanged
returns-in_default-get-clause-unchanged g c =
    back_again c.args.handles.now c.take_out.new.self c.put_back.new.handles c.args.value c.in-Some.given
    c.in-Some.given c.in-Some.ensures.taken c.in-Some.ensures.set c.put_back.ensures.set refl

pub returns-in-Ok-Some-clause-took : goal.returns-in-Ok-Some-clause-took
returns-in-Ok-Some-clause-took g c =
    let beside = found_beside c.args.handles.now c.take_out.new.self c.args.value c.args.container
    c.in-Some-get.object.now c.in-Some.ensures.set c.in-Some-get.ensures in
    record {
      object = c.in-Some-get.object.now;
      there = beside.1;
      given = c.in-Some.given;
      value_there = was_there c.args.handles.now c.args.value c.in-Some.given c.in-Some.ensures.taken;
      others = beside.0;
      answer = Some c.in-Ok-Some.old;
      did = rw c.in-Ok-Some.field-0-is at c.in-Ok-Some.ensures.did;
      left = filled_again c.args.handles.now c.take_out.new.self c.put_back-in-Ok-Some.new.handles c.args.value
          (Some c.in-Ok-Some.old) c.in-Some.ensures.set c.put_back-in-Ok-Some.ensures.set;
    }

pub returns-in-Err-clause-refused : goal.returns-in-Err-clause-refused
returns-in-Err-clause-refused g c =
    let beside = found_beside c.args.handles.now c.take_out.new.self c.args.value c.args.container
    c.in-Some-get.object.now c.in-Some.ensures.set c.in-Some-get.ensures in
    ValueRefused c.in-Some-get.object.now c.in-Some.given c.in-Err.handed beside.1
    (was_there c.args.handles.now c.args.value c.in-Some.given c.in-Some.ensures.taken) beside.0 refl c.in-Err.ensures.back c.in-Err.ensures.did

pub returns-in-Err-clause-unchanged : goal.returns-in-Err-clause-unchanged
returns-in-Err-clause-unchanged g c =
    back_again c.args.handles.now c.take_out.new.self c.put_back-in-Err.new.handles c.args.value c.in-Some.given
    c.in-Err.handed.value c.in-Some.ensures.taken c.in-Some.ensures.set c.put_back-in-Err.ensures.set
    c.in-Err.ensures.back
