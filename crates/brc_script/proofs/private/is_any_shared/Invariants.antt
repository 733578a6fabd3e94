use Rattle.std.proofs.Common.{◌≡◌, drop}
use Rattle.std.specs.List.{list_any}
use Rattle.brc_script.specs.Scripts.{line_shares}
use Rattle.brc_script.proofs.private.is_any_shared.Given as goal

abbrev pub invariant-loop-line : goal.invariant-loop-line
invariant-loop-line g l = list_any line_shares (drop l.line-index l.lines) ≡ list_any line_shares l.lines
