use Rattle.std.proofs.Common.{◌≡◌, refl, sym, ap, ◌∙◌, subst}
use Rattle.brc_client.proofs.Placed.{vacant, next_is}
use Rattle.brc_client.proofs.Named.{given_in}
use Rattle.brc_client.specs.Calls.{OnObject}
use Rattle.brc_client.specs.Clients.{ClientSeen}
use Rattle.brc_client.specs.Numbers.{number_at}
use Rattle.brc_client.proofs.client.Client.retain_into.Goals as goal

pub returns-in-Ok-clause-more : goal.returns-in-Ok-clause-more
returns-in-Ok-clause-more c =
    let gains = rw c.frame.ensures.frame at c.in-Ok.ensures.gains in
    let given = rw c.frame.ensures.frame at c.in-Ok.ensures.given in
    let next = subst (λ (client : ClientSeen). client.frame.next ≡ c.args.place) (sym c.self.view_is) c.requires.next in
    let place = next_is _ _ _ _ _ c.in_ok-handle.handle.now c.in-Ok.given c.self.invariant
    c.in_ok-handle.ensures.named given ∙ next in
    rw (← c.self.view_is) (record {
      handle = c.in_ok-handle.handle.now;
      names = c.in_ok-handle.ensures.named;
      so = record {
        given = c.in-Ok.given;
        did = record { given = given; refused = tt; unchanged = tt };
        empty = vacant _ _ c.self.inside.handles c.in-Ok.given c.self.invariant gains;
        set = c.lay.ensures.set;
        numbers = refl;
        is = c.number-more.ensures.number ∙ ap (number_at c.self.inside.numbers) (sym place);
      };
    })

pub returns-in-Ok-clause-names : goal.returns-in-Ok-clause-names
returns-in-Ok-clause-names c =
    let gains = rw c.frame.ensures.frame at c.in-Ok.ensures.gains in
    let given = rw c.frame.ensures.frame at c.in-Ok.ensures.given in
    let next = subst (λ (client : ClientSeen). client.frame.next ≡ c.args.place) (sym c.self.view_is) c.requires.next in
    let place = next_is _ _ _ _ _ c.in_ok-handle.handle.now c.in-Ok.given c.self.invariant
    c.in_ok-handle.ensures.named given ∙ next in
    given_in c.self.inside.handles _ _ c.in-Ok.given _ gains.room c.self.invariant.places c.lay.ensures.set
    (c.number-more.ensures.number ∙ ap (number_at c.self.inside.numbers) (sym place))

pub returns-in-Err-clause-refused : goal.returns-in-Err-clause-refused
returns-in-Err-clause-refused c =
    let refused = rw c.frame.ensures.frame at c.in-Err.ensures.refused in
    let unchanged = rw c.frame.ensures.frame at c.in-Err.ensures.unchanged in
    rw (← c.self.view_is) (OnObject (record {
      handle = c.in_ok-handle.handle.now;
      names = c.in_ok-handle.ensures.named;
      so = record { given = tt; refused = refused; unchanged = unchanged };
    }))
