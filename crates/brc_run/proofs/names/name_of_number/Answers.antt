use Rattle.brc_run.proofs.names.name_of_number.Goals as goal

pub returns-in-Some-clause-none : goal.returns-in-Some-clause-none
returns-in-Some-clause-none c = λ nobody. absurd (nobody c.in-Some.fault c.in-Some.ensures.number)
