use Rattle.std.proofs.Common.{◌≡◌, ◌-◌, length}
use Rattle.brc_text.specs.Lines.{first_line}
use Rattle.brc_text.proofs.LineLaws.{after}
use Rattle.brc_text.proofs.line.Words.read.Given as goal

abbrev pub invariant-loop : goal.invariant-loop
invariant-loop l = record {
  so_far : after l.self (first_line (8 - l.counter) l.rest) ≡ first_line 8 l.text;
  room : length l.self ≡ l.counter;
}
