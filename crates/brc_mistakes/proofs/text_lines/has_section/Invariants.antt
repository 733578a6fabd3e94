use Rattle.std.proofs.Common.{◌≡◌, length}
use Rattle.std.specs.List.{list_any}
use Rattle.brc_script.specs.Walks.{lines_of}
use Rattle.brc_mistakes.specs.Places.{begins_section}
use Rattle.brc_mistakes.proofs.text_lines.has_section.Given as goal

abbrev pub invariant-loop-rest : goal.invariant-loop-rest
invariant-loop-rest l = list_any begins_section (lines_of l.rest) ≡ list_any begins_section (lines_of l.text)

abbrev pub decreases-loop-rest : goal.decreases-loop-rest
decreases-loop-rest l = length l.rest
