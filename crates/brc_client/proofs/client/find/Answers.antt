use Rattle.brc_client.proofs.Named.{found}
use Rattle.brc_client.proofs.client.find.Goals as goal

pub returns-in-Some-clause-named : goal.returns-in-Some-clause-named
returns-in-Some-clause-named c = found _ _ c.args.number c.in_ok-place.place c.in-Some.handle.now
    c.in_ok-place.ensures.place c.in_ok-place.ensures.spelled c.in-Some.ensures
