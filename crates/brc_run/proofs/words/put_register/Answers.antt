use Rattle.brc_run.proofs.words.put_register.Goals as goal

pub returns : goal.returns
returns g c = (_, c.put_parts.ensures)
