use Rattle.std.proofs.Common.{refl}
use Rattle.brc_client.proofs.Placed.{vacant}
use Rattle.brc_client.specs.Calls.{OnObject}
use Rattle.brc_client.proofs.client.Client.retain_growing.Goals as goal

pub returns-in-Ok-clause-more : goal.returns-in-Ok-clause-more
returns-in-Ok-clause-more c =
    let gains = rw c.frame.ensures.frame at c.in-Ok.ensures.gains in
    let given = rw c.frame.ensures.frame at c.in-Ok.ensures.given in
    rw (← c.self.view_is) (record {
      handle = c.in_ok-handle.handle.now;
      names = c.in_ok-handle.ensures.named;
      so = record {
        given = c.in-Ok.given;
        did = record { given = given; refused = tt; unchanged = tt };
        empty = vacant _ _ c.self.inside.handles c.in-Ok.given c.self.invariant gains;
        set = c.insert.ensures.set;
        numbers = refl;
        is = c.insert.ensures.number;
      };
    })

pub returns-in-Err-clause-refused : goal.returns-in-Err-clause-refused
returns-in-Err-clause-refused c =
    let refused = rw c.frame.ensures.frame at c.in-Err.ensures.refused in
    let unchanged = rw c.frame.ensures.frame at c.in-Err.ensures.unchanged in
    rw (← c.self.view_is) (OnObject (record {
      handle = c.in_ok-handle.handle.now;
      names = c.in_ok-handle.ensures.named;
      so = record { given = tt; refused = refused; unchanged = unchanged };
    }))
