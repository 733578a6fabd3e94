use Rattle.std.proofs.Common.{◌≡◌, take, []}
use Rattle.brc_meaning.specs.Sections.{written_out}
use Rattle.brc_section.proofs.section.first_line.Given as goal

abbrev pub invariant-loop-at : goal.invariant-loop-at
invariant-loop-at g l = written_out (take l.at l.pieces) ≡ []
