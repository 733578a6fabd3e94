use Rattle.brc_program.proofs.answering.run.Goals as goal

pub returns-then-explain-clause-performs : goal.returns-then-explain-clause-performs
returns-then-explain-clause-performs g c = rw c.if-explain.true c.run_explained.ensures.performs

pub returns-else-explain-clause-performs : goal.returns-else-explain-clause-performs
returns-else-explain-clause-performs g c = rw c.if-explain.false c.run_plain.ensures.performs
