use Rattle.brc_program.proofs.facts.put_owner.Goals as goal

pub returns-in-Claimed : goal.returns-in-Claimed
returns-in-Claimed g c = rw c.in-Claimed.is c.put_number-in-Claimed.ensures
