use Rattle.std.proofs.Common.{◌≡◌, ◌≤◌, ◌+◌, length}
use Rattle.brc_script.specs.Walks.{lines_of}
use Rattle.brc_mistakes.specs.Places.{first_turn}
use Rattle.brc_mistakes.proofs.places.next_turn.Given as goal

abbrev pub invariant-loop-rest : goal.invariant-loop-rest
invariant-loop-rest l = record {
  so_far : first_turn l.at (lines_of l.rest) ≡ first_turn l.number (lines_of l.text);
  counted : l.at + length l.rest ≤ l.number + length l.text;
}

abbrev pub decreases-loop-rest : goal.decreases-loop-rest
decreases-loop-rest l = length l.rest
