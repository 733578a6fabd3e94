use Rattle.std.proofs.Common.{◌≡◌, take}
use Rattle.brc_text.specs.Tokens.{or_else}
use Rattle.brc_script.specs.Walks.{lines_of}
use Rattle.brc_mistakes.specs.Places.{last_turn, lines_above}
use Rattle.brc_mistakes.proofs.places.last_turn.Given as goal

abbrev pub invariant-loop-line : goal.invariant-loop-line
invariant-loop-line l =
    or_else (last_turn (take l.left (lines_of l.rest))) l.last ≡ last_turn (lines_above l.number l.text)

abbrev pub decreases-loop-line : goal.decreases-loop-line
decreases-loop-line l = l.left
