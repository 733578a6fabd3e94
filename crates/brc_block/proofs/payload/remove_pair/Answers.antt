use Rattle.brc_block.proofs.payload.remove_pair.Goals as goal

pub returns-clause-taken : goal.returns-clause-taken
returns-clause-taken g c = (c.remove-key.result.0, c.remove-key.ensures.taken)
