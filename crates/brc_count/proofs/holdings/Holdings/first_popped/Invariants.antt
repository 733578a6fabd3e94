use Rattle.std.proofs.Common.{◌≡◌, ◌<◌, ℕ}
use Rattle.brc_table.specs.law.world.Lists.{word_at}
use Rattle.brc_count.specs.Frames.{popped_seen}
use Rattle.brc_count.proofs.holdings.Holdings.first_popped.Given as goal

abbrev pub invariant-loop-word : goal.invariant-loop-word
invariant-loop-word g l = (k : ℕ) → k < l.word → word_at (popped_seen l.fn.self) k ≡ 0
