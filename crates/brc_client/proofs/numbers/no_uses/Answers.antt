use Rattle.brc_client.proofs.numbers.no_uses.Goals as goal

pub returns-clause-uses : goal.returns-clause-uses
returns-clause-uses c = c.in_ok-uses.ensures.items_if_clones_equal (λ y same. same)
