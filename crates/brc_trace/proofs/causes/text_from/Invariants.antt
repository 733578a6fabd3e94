use Rattle.std.proofs.Common.{◌≡◌, drop}
use Rattle.brc_text.specs.Lines.{pieces}
use Rattle.brc_trace.proofs.causes.text_from.Given as goal

abbrev pub invariant-loop : goal.invariant-loop
invariant-loop l = pieces l.rest ≡ drop l.counter (pieces l.text)
