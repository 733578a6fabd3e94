use Rattle.brc_client.proofs.client.Client.place_of.Goals as goal

pub returns-clause-named : goal.returns-clause-named
returns-clause-named c = rw (← c.self.view_is) (c.in_ok-_handle._handle.now, c.in_ok-_handle.ensures.named)
