use Rattle.std.proofs.Common.{◌≡◌}
use Rattle.brc_count.specs.Frames.{IsUnlocked}
use Rattle.brc_count.specs.Locking.{cell_in}
use Rattle.brc_count.specs.Owned.{Keeps}
use Rattle.brc_thread.specs.Clearing.{TakesSome}
use Rattle.brc_thread.proofs.clearing.take_all.Given as goal

abbrev pub invariant-loop : goal.invariant-loop
invariant-loop g l =
    Keeps l.fn.frame l.frame × IsUnlocked l.frame × (cell_in l.frame l.handle.place ≡ cell_in l.fn.frame l.handle.place)
    × TakesSome l.fn.frame l.handle.place l.counter l.frame
