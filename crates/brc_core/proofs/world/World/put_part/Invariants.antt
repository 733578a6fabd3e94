use Rattle.brc_core.proofs.Eaches.{Found}
use Rattle.brc_core.specs.Holders.{holds, holder_in}
use Rattle.law.specs.world.Holding.{if_so}
use Rattle.brc_core.proofs.world.World.put_part.Given as goal

abbrev pub invariant-loop-number : goal.invariant-loop-number
invariant-loop-number g l = Found (λ k. if_so (holds l.self l.part l.cell k) (holder_in l.part l.cell k)) l.number
    l.fn.found.items l.found.items
