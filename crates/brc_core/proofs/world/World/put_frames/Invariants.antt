use Rattle.brc_core.proofs.Eaches.{Found}
use Rattle.brc_core.specs.declared.holders.HolderPart.TheVariants as parts
use Rattle.brc_core.specs.Holders.{in_part}
use Rattle.brc_core.proofs.world.World.put_frames.Given as goal

abbrev pub invariant-loop-thread : goal.invariant-loop-thread
invariant-loop-thread g l = Found (λ t. in_part l.self (parts.Frame t) l.cell) l.thread l.fn.found.items l.found.items
