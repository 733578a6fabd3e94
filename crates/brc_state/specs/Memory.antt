-- Which steps may need memory: those that fill a place of a frame or add an entry, and a registration.
use Rattle.std.specs.Prelude.{Bool, true, false}
use Rattle.law.specs.declared.world.event.Change.{Change}
use Rattle.law.specs.declared.world.event.Change.TheVariants as changes
use Rattle.law.specs.declared.world.event.Step.{Step}
use Rattle.law.specs.declared.world.event.Step.TheVariants.{Birth, LocalUp, SharedUp, Unlock, Register}

-- an exchange fills a place that has a cell
abbrev pub moves_one : Change → Bool
moves_one changes.Keep = false
moves_one (changes.Put j) = true
moves_one (changes.Take i j) = true
moves_one (changes.Swap i j) = false

-- a growth may be refused at this step
abbrev pub needs_memory : Step → Bool
needs_memory (Birth c kind k) = true
needs_memory (LocalUp source k) = true
needs_memory (SharedUp source k) = true
needs_memory (Unlock change) = moves_one change
needs_memory (Register u) = true
needs_memory _ = false
