use Rattle.std.proofs.Common.{ap, ◌∙◌, sym}
use Rattle.brc_handles.specs.Handles.{slot}
use Rattle.brc_client.specs.Numbers.{place_in}
use Rattle.brc_client.specs.Clients.{ClientSeen}
use Rattle.brc_client.proofs.Born_Lists.{scalar_pushed}
use Rattle.brc_client.proofs.client.Client.push_scalar.Goals.{in-Ok, in-Err-Scalar}
use Rattle.brc_client.proofs.client.Client.push_scalar.Goals as goal

pub returns-clause-pushed : goal.returns-clause-pushed
returns-clause-pushed c = elim c.match-try_list_push_value.branch [
  | in-Ok w ↦
      let there = c.in-Some.ensures ∙ ap (λ (s : ClientSeen). slot s.handles (place_in c.args.list)) c.self.view_is in
      let kept = ap (λ (s : ClientSeen). s.none) (sym c.self.view_is) ∙ c.in-Some-none.is in
      let frame = c.frame.ensures.frame ∙ ap (λ (s : ClientSeen). s.frame) c.self.view_is in
      let put = rw frame at w.in-Ok.ensures.put in
      rw w.result-is
      (scalar_pushed c.args.self.now _ c.args.list c.in-Some.object.now c.in-Some-none.none c.args.note c.requires.list there
      c.requires.none kept (ap (λ (s : ClientSeen). s.none) c.self.view_is) (ap (λ (s : ClientSeen). s.handles) c.self.view_is)
      (ap (λ (s : ClientSeen). s.numbers) c.self.view_is) put)
  | in-Err-Scalar w ↦ rw w.result-is tt
]
