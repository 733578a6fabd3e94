use Rattle.std.proofs.Common.{◌≡◌, ◌≤◌, ◌<◌, ◌+◌, length}
use Rattle.brc_words.specs.declared.limits.TheConstants.{MOST_INPUT}
use Rattle.brc_script.specs.declared.limits.TheConstants.{MOST_SECTIONS}
use Rattle.brc_script.specs.Walks.{lines_of, walk, nothing}
use Rattle.brc_script.proofs.parsing.progress_of.Given as goal

abbrev pub invariant-loop-rest : goal.invariant-loop-rest
invariant-loop-rest g l = record {
  so_far : walk l.progress l.number (lines_of l.rest) ≡ walk nothing 1 (lines_of l.text);
  counted : l.number + length l.rest ≤ MOST_INPUT + 1;
  few : length l.progress.done < MOST_SECTIONS;
}

abbrev pub decreases-loop-rest : goal.decreases-loop-rest
decreases-loop-rest g l = length l.rest
