use Rattle.std.proofs.Common.{◌≡◌}
use Rattle.std.specs.List.{repeat}
use Rattle.brc_count.specs.law.living.Later.{IsLater}
use Rattle.brc_instructions.specs.Registers.{OwnsRegisters}
use Rattle.brc_section.specs.Running.{AreOwn, HasRun}
use Rattle.brc_section.proofs.running.run_times.Given as goal

abbrev pub invariant-loop-turn : goal.invariant-loop-turn
invariant-loop-turn g l =
    (l.frame.heap ≡ l.fn.frame.heap) × OwnsRegisters l.frame l.registers
    × HasRun l.fn.frame l.fn.registers l.fn.lines.items l.frame l.registers l.lines.items (repeat l.times l.body)
    (repeat l.turn l.body)
    × (AreOwn (repeat l.times l.body) → IsLater l.fn.frame.seat.log l.frame.seat.log)
