use Rattle.std.proofs.Common.{◌≡◌, take}
use Rattle.brc_count.specs.law.living.Later.{IsLater}
use Rattle.brc_instructions.specs.Registers.{OwnsRegisters}
use Rattle.brc_section.specs.Running.{AreOwn, HasRun}
use Rattle.brc_section.proofs.running.run_lines.Given as goal

abbrev pub invariant-loop-at : goal.invariant-loop-at
invariant-loop-at g l =
    (l.frame.heap ≡ l.fn.frame.heap) × OwnsRegisters l.frame l.registers
    × HasRun l.fn.frame l.fn.registers l.fn.lines.items l.frame l.registers l.lines.items l.body (take l.at l.body)
    × (AreOwn l.body → IsLater l.fn.frame.seat.log l.frame.seat.log)
