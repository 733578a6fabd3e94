use Rattle.brc_client.specs.Calls.{OnObject}
use Rattle.brc_client.proofs.client.Client.kind.Goals as goal
use Rattle.brc_client.proofs.client.Client.kind.Goals.{in-Ok, in-Err}

pub returns-clause-looked : goal.returns-clause-looked
returns-clause-looked c =
    elim c.match-kind_told.branch [
      | in-Ok w ↦
          let told = rw c.frame.ensures.frame at w.in-Ok.ensures.told in
          rw w.result-is (rw (← c.self.view_is) (record {
            handle = c.in_ok-object.object.now;
            names = c.in_ok-object.ensures.named;
            so = told;
          }))
      | in-Err w ↦
          let told = rw c.frame.ensures.frame at w.in-Err.ensures.told in
          rw w.result-is (rw (← c.self.view_is) (OnObject (record {
            handle = c.in_ok-object.object.now;
            names = c.in_ok-object.ensures.named;
            so = told;
          })))
    ]
