use Rattle.std.proofs.Common.{◌≡◌, take}
use Rattle.brc_text.specs.Padding.{padded}
use Rattle.brc_text.proofs.excerpt.Excerpt.of.Given as goal

abbrev pub invariant-loop-at : goal.invariant-loop-at
invariant-loop-at l = l.row ≡ padded (take l.at l.front)
