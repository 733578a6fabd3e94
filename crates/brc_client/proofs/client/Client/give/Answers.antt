use Rattle.std.proofs.Common.{refl}
use Rattle.brc_client.proofs.Placed.{keeps, vacant}
use Rattle.brc_client.proofs.Named.{given_in, kept_in}
use Rattle.brc_client.specs.Calls.{OnObject}
use Rattle.brc_client.proofs.client.Client.give.Goals as goal

pub invariant_of-self-in-Err : goal.invariant_of-self-in-Err
invariant_of-self-in-Err g c = keeps _ _ c.self.inside.handles c.self.invariant
    (rw c.frame.ensures.frame at c.in-Err.ensures.keeps) c.in-Err.ensures.unlocked

pub returns-in-Ok-clause-gave : goal.returns-in-Ok-clause-gave
returns-in-Ok-clause-gave g c =
    let gains = rw c.frame.ensures.frame at c.in-Ok.ensures.gains in
    let did = rw c.frame.ensures.frame at c.in-Ok.ensures.did in
    rw (← c.self.view_is) (record {
      handle = c.in_ok-object.object.now;
      names = c.in_ok-object.ensures.named;
      so = record {
        given = c.in-Ok.given;
        did = did;
        empty = vacant _ _ c.self.inside.handles c.in-Ok.given c.self.invariant gains;
        set = c.insert.ensures.set;
        numbers = refl;
        is = c.insert.ensures.number;
      };
    })

pub returns-in-Ok-clause-names : goal.returns-in-Ok-clause-names
returns-in-Ok-clause-names g c = given_in c.self.inside.handles _ _ c.in-Ok.given c.insert.result
    c.in-Ok.ensures.gains.room c.self.invariant.places c.insert.ensures.set c.insert.ensures.number

pub returns-in-Ok-clause-keeps : goal.returns-in-Ok-clause-keeps
returns-in-Ok-clause-keeps g c =
    let gains = rw c.frame.ensures.frame at c.in-Ok.ensures.gains in
    let empty = vacant _ _ c.self.inside.handles c.in-Ok.given c.self.invariant gains in
    rw (← c.self.view_is) (kept_in _ _ _ _ c.in-Ok.given empty c.insert.ensures.set refl)

pub returns-in-Err-clause-refused : goal.returns-in-Err-clause-refused
returns-in-Err-clause-refused g c =
    let did = rw c.frame.ensures.frame at c.in-Err.ensures.did in
    rw (← c.self.view_is) (OnObject (record {
      handle = c.in_ok-object.object.now;
      names = c.in_ok-object.ensures.named;
      so = did;
    }))
