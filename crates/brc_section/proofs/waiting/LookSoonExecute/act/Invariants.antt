use Rattle.std.proofs.Common.{◌≡◌, ℕ}
use Rattle.brc_count.specs.law.living.Later.{IsLater}
use Rattle.brc_instructions.specs.Registers.{OwnsRegisters}
use Rattle.brc_section.specs.declared.waiting.AwaitedHere.TheVariants as awaits
use Rattle.brc_section.specs.Tries.{StaysMeant}
use Rattle.brc_section.proofs.waiting.LookSoonExecute.act.Given as goal

abbrev pub invariant-loop : goal.invariant-loop
invariant-loop g l =
    (l.frame.heap ≡ l.fn.frame.heap) × OwnsRegisters l.frame l.registers
    × IsLater l.fn.frame.seat.log l.frame.seat.log
    × ((mailbox : ℕ) → l.self.look.now.awaited ≡ awaits.Letter mailbox
    → StaysMeant l.fn.frame l.fn.registers l.frame l.registers)
