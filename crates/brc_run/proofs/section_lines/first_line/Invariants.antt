use Rattle.std.proofs.Common.{◌≡◌, take, true}
use Rattle.brc_text.specs.Lines.{lacks}
use Rattle.brc_run.proofs.section_lines.first_line.Given as goal

abbrev pub invariant-loop-at : goal.invariant-loop-at
invariant-loop-at l = lacks 10 (take l.at l.text) ≡ true
