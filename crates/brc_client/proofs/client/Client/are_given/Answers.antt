use Rattle.std.proofs.Common.{subst}
use Rattle.brc_client.specs.Clients.{ClientSeen}
use Rattle.brc_client.specs.Value_Row.{AllNamed}
use Rattle.brc_client.proofs.Born_Lists.{given_when, refused_when}
use Rattle.brc_client.proofs.client.Client.are_given.Goals as goal

pub none_twice-requires : goal.none_twice-requires
none_twice-requires g c = record {
  spelled = λ at number has. (c.in_ok-are_named.ensures.named at number has).1.spelled;
}

pub returns-then-branch-clause-given : goal.returns-then-branch-clause-given
returns-then-branch-clause-given g c =
    let items = g.S.ValueRow.items c.args.values.now in
    let named = subst (λ (s : ClientSeen). AllNamed s.handles s.numbers items) c.self.view_is
    c.in_ok-are_named.ensures.named in
    given_when c.args.self.now items c.none_twice.result named c.none_twice.ensures.apart

pub returns-then-branch-clause-refused : goal.returns-then-branch-clause-refused
returns-then-branch-clause-refused g c =
    let items = g.S.ValueRow.items c.args.values.now in
    let named = subst (λ (s : ClientSeen). AllNamed s.handles s.numbers items) c.self.view_is
    c.in_ok-are_named.ensures.named in
    refused_when c.args.self.now items c.none_twice.result named c.none_twice.ensures.twice

pub returns-else-branch-clause-given : goal.returns-else-branch-clause-given
returns-else-branch-clause-given g c =
    let items = g.S.ValueRow.items c.args.values.now in
    record {
      named = subst (λ (s : ClientSeen). AllNamed s.handles s.numbers items) c.self.view_is
          c.in_ok-are_named.ensures.named;
      apart = c.in_ok-are_named.ensures.apart c.if-branch.false;
    }
