use Rattle.brc_run.proofs.words.put_text.Goals as goal

pub returns : goal.returns
returns g c = (c.args.text.now, c.put_bytes.ensures)
