use Rattle.std.proofs.Common.{◌≡◌, ℕ}
use Rattle.brc_table.specs.law.world.Lists.{word_at}
use Rattle.brc_count.specs.Frames.{KeepsHandles, popped_seen}
use Rattle.brc_count.specs.Polling.{DrainsEach}
use Rattle.brc_count.proofs.holdings.Holdings.drain_each.Given as goal

abbrev pub invariant-loop-word : goal.invariant-loop-word
invariant-loop-word g l = DrainsEach l.fn.from l.fn.self l.word l.self × KeepsHandles l.fn.self l.self
    × ((k : ℕ) → word_at (popped_seen l.self) k ≡ 0)
