use Rattle.brc_state.proofs.Numbers.{Searched}
use Rattle.brc_state.proofs.tables.Tables.first_gathered.Given as goal

abbrev pub invariant-loop-number : goal.invariant-loop-number
invariant-loop-number g l = Searched l.self.gathered l.number
