use Rattle.std.proofs.Common.{refl}
use Rattle.brc_client.proofs.Placed.{vacant}
use Rattle.brc_client.proofs.Named.{given_in}
use Rattle.brc_client.specs.Calls.{OnObject}
use Rattle.brc_client.proofs.client.Client.pair.Goals as goal

pub returns-in-Ok-clause-names : goal.returns-in-Ok-clause-names
returns-in-Ok-clause-names c = given_in c.self.inside.handles _ _ c.in-Ok.given c.insert-number.result
    c.in-Ok.ensures.gains.room c.self.invariant.places c.insert-number.ensures.set c.insert-number.ensures.number

pub returns-in-Ok-clause-gave : goal.returns-in-Ok-clause-gave
returns-in-Ok-clause-gave c =
    let gains = rw c.frame.ensures.frame at c.in-Ok.ensures.gains in
    let did = rw c.frame.ensures.frame at c.in-Ok.ensures.shares in
    rw (← c.self.view_is) (record {
      handle = c.in_ok-object.object.now;
      names = c.in_ok-object.ensures.named;
      so = record {
        given = c.in-Ok.given;
        did = did;
        empty = vacant _ _ c.self.inside.handles c.in-Ok.given c.self.invariant gains;
        set = c.insert-number.ensures.set;
        numbers = refl;
        is = c.insert-number.ensures.number;
      };
    })

pub returns-in-Err-clause-refused : goal.returns-in-Err-clause-refused
returns-in-Err-clause-refused c =
    let did = rw c.frame.ensures.frame at c.in-Err.ensures.shares in
    rw (← c.self.view_is) (OnObject (record {
      handle = c.in_ok-object.object.now;
      names = c.in_ok-object.ensures.named;
      so = did;
    }))
