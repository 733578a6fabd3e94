use Rattle.std.proofs.Common.{rules, w64}
use Rattle.std.proofs.lemmas.Int.{to_z-of_z}
use Rattle.brc_client.specs.Calls.{OnObject}
use Rattle.brc_client.proofs.client.Client.int.Goals as goal
use Rattle.brc_client.proofs.client.Client.int.Goals.{in-Ok, in-Err}

pub returns-clause-looked : goal.returns-clause-looked
returns-clause-looked c =
    elim c.match-int_told.branch [
      | in-Ok w ↦
          let told = rw c.frame.ensures.frame at w.in-Ok.ensures.told in
          rw w.result-is (rw (← c.self.view_is) (record {
            handle = c.in_ok-object.object.now;
            names = c.in_ok-object.ensures.named;
            so = rw (to_z-of_z w64 w.in-Ok.value (search rules)) told;
          }))
      | in-Err w ↦
          let told = rw c.frame.ensures.frame at w.in-Err.ensures.told in
          rw w.result-is (rw (← c.self.view_is) (OnObject (record {
            handle = c.in_ok-object.object.now;
            names = c.in_ok-object.ensures.named;
            so = told;
          })))
    ]
