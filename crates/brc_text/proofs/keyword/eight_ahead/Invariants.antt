use Rattle.brc_text.proofs.KeywordLaws.{HasPacked}
use Rattle.brc_text.proofs.keyword.eight_ahead.Given as goal

abbrev pub invariant-loop-at : goal.invariant-loop-at
invariant-loop-at l = HasPacked l.text l.at l.key
