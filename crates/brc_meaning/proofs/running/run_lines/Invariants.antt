use Rattle.std.proofs.Common.{◌≡◌, drop}
use Rattle.brc_meaning.specs.Sections.{lines_after}
use Rattle.brc_meaning.proofs.running.run_lines.Given as goal

abbrev pub invariant-loop-line : goal.invariant-loop-line
invariant-loop-line g l = lines_after (drop l.line-index l.lines) l.state ≡ lines_after l.lines l.fn.state
