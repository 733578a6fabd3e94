use Rattle.std.proofs.Common.{◌≡◌, ◌<◌, ◌≤◌, ℕ}
use Rattle.brc_words.specs.declared.limits.TheConstants.{FIRST_MORTAL}
use Rattle.brc_table.specs.law.world.Heap.{words_for}
use Rattle.brc_table.specs.law.rule.Seen.{part_seen, counts_seen}
use Rattle.brc_count.specs.Frames.{IsUnlocked}
use Rattle.brc_count.specs.Closing.{ClosesWords, stage_with}
use Rattle.brc_count.proofs.holdings.Holdings.close_all.Given as goal

abbrev pub invariant-loop-word : goal.invariant-loop-word
invariant-loop-word g l = ClosesWords l.fn.self.seat.log l.word l.self.seat.log × (l.self.heap ≡ l.fn.self.heap)
    × (l.self.seat.thread ≡ l.fn.self.seat.thread)
    × ((part_seen l.fn.self.heap.cells l.self.seat.log).row.stage ≡ stage_with (words_for l.fn.self.heap.cells) l.word)
    × IsUnlocked l.self
    × (l.self.len ≡ 0)
    × ((c : ℕ) → FIRST_MORTAL ≤ c → c < l.fn.self.heap.cells → counts_seen l.fn.self.heap.cells l.self.seat.log c ≡ 0)
