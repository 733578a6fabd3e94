use Rattle.brc_core.proofs.Eaches.{Found}
use Rattle.brc_core.specs.declared.holders.HolderPart.TheVariants as parts
use Rattle.brc_core.specs.Holders.{in_part}
use Rattle.brc_core.proofs.world.World.put_entries.Given as goal

abbrev pub invariant-loop-at : goal.invariant-loop-at
invariant-loop-at g l = Found (λ c. in_part l.self (parts.Entries c) l.cell) l.at l.fn.found.items l.found.items
