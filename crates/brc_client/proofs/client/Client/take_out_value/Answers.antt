use Rattle.std.proofs.Common.{refl}
use Rattle.brc_client.proofs.Placed.{keeps, vacant}
use Rattle.brc_client.proofs.Named.{given_in, kept_in}
use Rattle.brc_client.specs.Calls.{OnObject}
use Rattle.brc_client.proofs.client.Client.take_out_value.Goals as goal

pub invariant_of-self-in-Err : goal.invariant_of-self-in-Err
invariant_of-self-in-Err g c = keeps _ _ c.self.inside.handles c.self.invariant
    (rw c.frame.ensures.frame at c.in-Err.ensures.keeps) c.in-Err.ensures.unlocked

pub returns-in-Ok-Scalar-clause-gave : goal.returns-in-Ok-Scalar-clause-gave
returns-in-Ok-Scalar-clause-gave g c =
    let came = rw c.frame.ensures.frame at c.in-Ok-Scalar.ensures.did in
    let did = rw c.in-Ok-Scalar.field-0-is at came in
    rw (← c.self.view_is) (record {
      handle = c.in_ok-object.object.now;
      names = c.in_ok-object.ensures.named;
      so = (did, refl, refl);
    })

pub returns-in-Ok-Object-clause-gave : goal.returns-in-Ok-Object-clause-gave
returns-in-Ok-Object-clause-gave g c =
    let gains = rw c.in-Ok-Object.field-0-is at (rw c.frame.ensures.frame at c.in-Ok-Object.ensures.gains) in
    let did = rw c.in-Ok-Object.field-0-is at (rw c.frame.ensures.frame at c.in-Ok-Object.ensures.did) in
    rw (← c.self.view_is) (record {
      handle = c.in_ok-object.object.now;
      names = c.in_ok-object.ensures.named;
      so = record {
        given = c.in-Ok-Object.given;
        did = did;
        empty = vacant _ _ c.self.inside.handles c.in-Ok-Object.given c.self.invariant gains;
        set = c.insert-number.ensures.set;
        numbers = refl;
        is = c.insert-number.ensures.number;
      };
    })

pub returns-in-Ok-Object-clause-names : goal.returns-in-Ok-Object-clause-names
returns-in-Ok-Object-clause-names g c =
    let gains = rw c.in-Ok-Object.field-0-is at c.in-Ok-Object.ensures.gains in
    given_in c.self.inside.handles _ _ c.in-Ok-Object.given c.insert-number.result gains.room
    c.self.invariant.places c.insert-number.ensures.set c.insert-number.ensures.number

pub returns-in-Ok-Object-clause-keeps : goal.returns-in-Ok-Object-clause-keeps
returns-in-Ok-Object-clause-keeps g c =
    let gains = rw c.in-Ok-Object.field-0-is at (rw c.frame.ensures.frame at c.in-Ok-Object.ensures.gains) in
    let empty = vacant _ _ c.self.inside.handles c.in-Ok-Object.given c.self.invariant gains in
    rw (← c.self.view_is) (kept_in _ _ _ _ c.in-Ok-Object.given empty c.insert-number.ensures.set refl)

pub returns-in-Err-clause-refused : goal.returns-in-Err-clause-refused
returns-in-Err-clause-refused g c =
    let did = rw c.frame.ensures.frame at c.in-Err.ensures.did in
    rw (← c.self.view_is) (OnObject (record {
      handle = c.in_ok-object.object.now;
      names = c.in_ok-object.ensures.named;
      so = did;
    }))
