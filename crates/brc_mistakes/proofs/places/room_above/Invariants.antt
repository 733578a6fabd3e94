use Rattle.std.proofs.Common.{◌≡◌, ◌-◌, take}
use Rattle.std.specs.Prelude.{count_by}
use Rattle.brc_script.specs.declared.limits.TheConstants.{MOST_SECTIONS}
use Rattle.brc_script.specs.Walks.{lines_of}
use Rattle.brc_mistakes.specs.Places.{begins_section, lines_above}
use Rattle.brc_mistakes.proofs.places.room_above.Given as goal

abbrev pub invariant-loop-line : goal.invariant-loop-line
invariant-loop-line l =
    l.room - count_by begins_section (take l.left (lines_of l.rest))
    ≡ MOST_SECTIONS - count_by begins_section (lines_above l.number l.text)

abbrev pub decreases-loop-line : goal.decreases-loop-line
decreases-loop-line l = l.left
