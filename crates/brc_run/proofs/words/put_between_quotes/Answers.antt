use Rattle.brc_run.proofs.words.put_between_quotes.Goals as goal

pub returns : goal.returns
returns g c = (_, c.put_quoted.ensures)
