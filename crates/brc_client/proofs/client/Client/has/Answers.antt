use Rattle.std.proofs.Common.{subst, ap, ◌∙◌, Ok}
use Rattle.std.specs.declared.alloc.Global.{Global}
use Rattle.brc_count.specs.block.Lent_Keys.{key_lent}
use Rattle.brc_count.specs.Frames.{FrameSeen}
use Rattle.brc_client.specs.Clients.{ClientSeen}
use Rattle.brc_client.specs.Keyed.{HasKey}
use Rattle.brc_client.specs.Calls.{OnObject}
use Rattle.brc_client.proofs.client.Client.has.Goals as goal
use Rattle.brc_client.proofs.client.Client.has.Goals.{in-Ok, in-Err}

pub returns-clause-looked : goal.returns-clause-looked
returns-clause-looked c =
    elim c.match-key_there.branch [
      | in-Ok w ↦
          let looked = subst (λ (frame : FrameSeen Global). HasKey (key_lent c.args.key) frame c.key_there.new.frame
          c.in_ok-object.object.now.place (Ok w.in-Ok.is_there))
          (c.frame.ensures.frame ∙ ap (λ (s : ClientSeen). s.frame) c.self.view_is) w.in-Ok.ensures.looked in
          rw w.result-is (rw (← c.self.view_is) (record {
            handle = c.in_ok-object.object.now;
            names = c.in_ok-object.ensures.named;
            so = looked;
          }))
      | in-Err w ↦
          let looked = rw c.frame.ensures.frame at w.in-Err.ensures.looked in
          rw w.result-is (rw (← c.self.view_is) (OnObject (record {
            handle = c.in_ok-object.object.now;
            names = c.in_ok-object.ensures.named;
            so = looked;
          })))
    ]
