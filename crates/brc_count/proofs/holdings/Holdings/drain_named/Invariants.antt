use Rattle.std.proofs.Common.{◌≡◌, ℕ}
use Rattle.brc_table.specs.law.world.Lists.{word_at}
use Rattle.brc_count.specs.Frames.{KeepsHandles, popped_seen}
use Rattle.brc_count.specs.Polling.{DrainsNamed}
use Rattle.brc_count.proofs.holdings.Holdings.drain_named.Given as goal

abbrev pub invariant-loop-bit : goal.invariant-loop-bit
invariant-loop-bit g l = DrainsNamed l.named l.words l.initial.self l.bit l.self × KeepsHandles l.initial.self l.self
    × ((k : ℕ) → word_at (popped_seen l.self) k ≡ 0)
