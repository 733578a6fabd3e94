use Rattle.std.proofs.Common.{◌≡◌, ◌≤◌, drop, length}
use Rattle.brc_script.specs.Walks.{lines_of}
use Rattle.brc_mistakes.proofs.text_lines.text_from.Given as goal

abbrev pub invariant-loop : goal.invariant-loop
invariant-loop l = record {
  lines : lines_of l.rest ≡ drop l.counter (lines_of l.text);
  shorter : length l.rest ≤ length l.text;
}
