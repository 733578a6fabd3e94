use Rattle.brc_places.proofs.stack.Stack.make.Goals as goal

pub returns-clause-refused : goal.returns-clause-refused
returns-clause-refused g c = rw (← c.self.view_is) c.make_at.ensures.refused
