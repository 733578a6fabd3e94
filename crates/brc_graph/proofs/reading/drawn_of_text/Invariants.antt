use Rattle.std.proofs.Common.{◌≡◌, ◌≤◌, ◌+◌, [], length}
use Rattle.brc_words.specs.declared.limits.TheConstants.{MOST_INPUT}
use Rattle.brc_text.specs.Lines.{pieces}
use Rattle.brc_graph.specs.declared.part.TextPart.TheVariants as parts
use Rattle.brc_graph.specs.Reading.{walk}
use Rattle.brc_graph.proofs.reading.drawn_of_text.Given as goal

abbrev pub invariant-loop-rest : goal.invariant-loop-rest
invariant-loop-rest g l = record {
  so_far : walk l.part l.drawn.items l.number (pieces l.rest) ≡ walk parts.Start [] 1 (pieces l.text);
  counted : l.number + length l.rest ≤ MOST_INPUT + 1;
}

abbrev pub decreases-loop-rest : goal.decreases-loop-rest
decreases-loop-rest g l = length l.rest
