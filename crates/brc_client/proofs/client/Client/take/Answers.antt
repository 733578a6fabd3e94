use Rattle.brc_client.proofs.Placed.{put_in}
use Rattle.brc_client.proofs.Named.{came_names, refused}
use Rattle.brc_client.proofs.client.Client.take.Goals as goal

pub invariant_of-self-in-Ok : goal.invariant_of-self-in-Ok
invariant_of-self-in-Ok c =
    let stands = rw c.frame.ensures.frame at c.in-Ok.ensures.stands in
    let took = c.in-Ok.ensures.took in
    put_in _ _ c.self.inside.handles c.try_take_at.new.handles c.in_ok-from.from took.given took.answer
    c.self.invariant stands took.value_there took.left c.in-Ok.ensures.came

pub returns-in-Err-clause-refused : goal.returns-in-Err-clause-refused
returns-in-Err-clause-refused c =
    let not = rw c.frame.ensures.frame at c.in-Err.ensures.refused in
    let into = rw (← c.self.view_is) at c.in_ok-into.ensures.named in
    let from = rw (← c.self.view_is) at c.in_ok-from.ensures.named in
    rw (← c.self.view_is) (refused _ _ _ c.args.container c.args.value c.in_ok-into.into c.in_ok-from.from c.in-Err.fault
    c.in_ok-into.ensures.place c.in_ok-from.ensures.place into from c.if-into-from.false not)

pub returns-in-Ok-clause-came : goal.returns-in-Ok-clause-came
returns-in-Ok-clause-came c = came_names _ _ c.in_ok-from.from c.number_there.result c.in_ok-from.ensures.inside
    c.number_there.ensures
