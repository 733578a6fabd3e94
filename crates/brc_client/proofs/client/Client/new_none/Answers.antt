use Rattle.brc_client.specs.Clients.{ClientSeen, KeptGoes}
use Rattle.std.proofs.Common.{subst, sym}
use Rattle.brc_client.specs.Valued.{IsMade}
use Rattle.brc_client.proofs.client.Client.new_none.Goals as goal

pub returns-in-None-clause-made : goal.returns-in-None-clause-made
returns-in-None-clause-made c =
    let given = rw c.frame.ensures.frame at c.in-Ok.ensures.given in
    let goes = subst (λ (s : ClientSeen). KeptGoes c.args.self.now.frame c.args.self.now.none s.frame)
    (sym c.self.view_is) c.let_none_go.ensures.goes in
    record {
      none = c.in-Ok.none;
      kept = c.replace.ensures.after;
      readies = IsMade c.self.inside.mutator goes given;
      cell = given.has;
    }
