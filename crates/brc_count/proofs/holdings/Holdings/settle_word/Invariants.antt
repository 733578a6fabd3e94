use Rattle.brc_table.specs.law.world.Lists.{word_at}
use Rattle.brc_count.specs.Frames.{KeepsHandles, popped_seen}
use Rattle.brc_count.specs.Polling.{DealsBits}
use Rattle.brc_count.proofs.Popping.{Sifted}
use Rattle.brc_count.proofs.holdings.Holdings.settle_word.Given as goal

abbrev pub invariant-loop-bit : goal.invariant-loop-bit
invariant-loop-bit g l = DealsBits l.fn.word (word_at (popped_seen l.fn.self) l.fn.word) l.fn.self l.bit l.self
    × KeepsHandles l.fn.self l.self
    × Sifted l.fn.word l.bit (popped_seen l.fn.self) (popped_seen l.self)
