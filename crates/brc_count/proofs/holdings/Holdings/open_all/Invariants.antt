use Rattle.std.proofs.Common.{◌≡◌}
use Rattle.brc_table.specs.law.world.Heap.{words_for}
use Rattle.brc_table.specs.law.rule.Seen.{part_seen}
use Rattle.brc_table.specs.Seated.{IsSameSeat}
use Rattle.brc_count.specs.Frames.{IsUnlocked}
use Rattle.brc_count.specs.Closing.{ReopensWords, stage_opened}
use Rattle.brc_count.proofs.holdings.Holdings.open_all.Given as goal

abbrev pub invariant-loop-word : goal.invariant-loop-word
invariant-loop-word g l = ReopensWords l.fn.self.seat.log l.word l.self.seat.log
    × (l.self ≡ record l.fn.self { seat = l.self.seat }) × IsSameSeat l.fn.self.seat l.self.seat
    × ((part_seen l.fn.self.heap.cells l.self.seat.log).row.stage ≡ stage_opened (words_for l.fn.self.heap.cells) l.word)
    × IsUnlocked l.self
