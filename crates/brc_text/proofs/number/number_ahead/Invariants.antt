use Rattle.brc_text.proofs.NumberLaws.{HasRead}
use Rattle.brc_text.proofs.number.number_ahead.Given as goal

abbrev pub invariant-loop-at : goal.invariant-loop-at
invariant-loop-at l = HasRead l.text l.at l.number
