use Rattle.std.proofs.Common.{◌≡◌, true, take}
use Rattle.brc_text.specs.Lines.{lacks}
use Rattle.brc_trace.proofs.causes.cut_at.Given as goal

abbrev pub invariant-loop-at : goal.invariant-loop-at
invariant-loop-at l = lacks l.mark (take l.at l.text) ≡ true
