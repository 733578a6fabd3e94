use Rattle.std.proofs.Common.{◌≡◌, take}
use Rattle.std.specs.Str.{bytes_eq}
use Rattle.std.specs.List.{list_any}
use Rattle.brc_script.specs.Walks.{lines_of}
use Rattle.brc_mistakes.specs.Places.{lines_above}
use Rattle.brc_mistakes.proofs.places.stands_above.Given as goal

abbrev pub invariant-loop-other : goal.invariant-loop-other
invariant-loop-other l =
    list_any (bytes_eq l.line) (take l.left (lines_of l.rest)) ≡ list_any (bytes_eq l.line) (lines_above l.number l.text)

abbrev pub decreases-loop-other : goal.decreases-loop-other
decreases-loop-other l = l.left
