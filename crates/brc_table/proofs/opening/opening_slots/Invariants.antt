use Rattle.std.proofs.Common.{◌≡◌, map}
use Rattle.brc_table.specs.Opening.{slot_shows, opening_slots}
use Rattle.brc_table.proofs.opening.opening_slots.Given as goal

abbrev pub invariant-loop-cell : goal.invariant-loop-cell
invariant-loop-cell g l = map slot_shows l.made.items ≡ opening_slots l.cell
