use Rattle.std.proofs.Common.{refl}
use Rattle.brc_client.proofs.Placed.{gained, vacant}
use Rattle.brc_client.proofs.Named.{given_in}
use Rattle.brc_client.specs.Calls.{OnObject}
use Rattle.brc_client.proofs.client.Client.pair_value.Goals as goal

pub invariant_of-self-in-Object : goal.invariant_of-self-in-Object
invariant_of-self-in-Object c =
    let gains = rw c.in-Object.is at (rw c.frame.ensures.frame at c.in-Ok.ensures.gains) in
    gained _ _ c.self.inside.handles c.insert-number.new.handles c.in-Object.given c.self.invariant gains
    c.in-Ok.ensures.unlocked gains.room c.insert-number.ensures.set c.insert-number.ensures.comes

pub returns-in-Scalar-clause-gave : goal.returns-in-Scalar-clause-gave
returns-in-Scalar-clause-gave c =
    let did = rw c.in-Scalar.is at (rw c.frame.ensures.frame at c.in-Ok.ensures.looked) in
    rw (← c.self.view_is) (record {
      handle = c.in_ok-object.object.now;
      names = c.in_ok-object.ensures.named;
      so = (did, refl, refl);
    })

pub returns-in-Object-clause-gave : goal.returns-in-Object-clause-gave
returns-in-Object-clause-gave c =
    let gains = rw c.in-Object.is at (rw c.frame.ensures.frame at c.in-Ok.ensures.gains) in
    let did = rw c.in-Object.is at (rw c.frame.ensures.frame at c.in-Ok.ensures.looked) in
    rw (← c.self.view_is) (record {
      handle = c.in_ok-object.object.now;
      names = c.in_ok-object.ensures.named;
      so = record {
        given = c.in-Object.given;
        did = did;
        empty = vacant _ _ c.self.inside.handles c.in-Object.given c.self.invariant gains;
        set = c.insert-number.ensures.set;
        numbers = refl;
        is = c.insert-number.ensures.number;
      };
    })

pub returns-in-Object-clause-names : goal.returns-in-Object-clause-names
returns-in-Object-clause-names c =
    let gains = rw c.in-Object.is at c.in-Ok.ensures.gains in
    given_in c.self.inside.handles _ _ c.in-Object.given c.insert-number.result gains.room
    c.self.invariant.places c.insert-number.ensures.set c.insert-number.ensures.number

pub returns-in-Err-clause-refused : goal.returns-in-Err-clause-refused
returns-in-Err-clause-refused c =
    let did = rw c.frame.ensures.frame at c.in-Err.ensures.looked in
    rw (← c.self.view_is) (OnObject (record {
      handle = c.in_ok-object.object.now;
      names = c.in_ok-object.ensures.named;
      so = did;
    }))
