use Rattle.std.proofs.Common.{◌≡◌, ◌+◌, length, take}
use Rattle.brc_model.specs.Facts.{entries_in}
use Rattle.brc_model.proofs.reads.entry_place.Given as goal

abbrev pub invariant-loop-place : goal.invariant-loop-place
invariant-loop-place l = l.left + length (entries_in (take l.place l.facts) l.cell) ≡ l.fn.index
