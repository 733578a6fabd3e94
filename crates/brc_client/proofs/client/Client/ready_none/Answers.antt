use Rattle.brc_client.proofs.client.Client.ready_none.Goals as goal

pub returns-in-Err-clause-refused : goal.returns-in-Err-clause-refused
returns-in-Err-clause-refused c = rw c.has_none.ensures.same at c.in-Err.ensures.refused
