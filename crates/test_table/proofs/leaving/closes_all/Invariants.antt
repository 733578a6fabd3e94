use Rattle.std.proofs.Common.{◌≡◌}
use Rattle.law.specs.rule.Seen.{part_seen}
use Rattle.brc_table.specs.Seated.{IsSameSeat}
use Rattle.test_table.specs.Leaving.{CountsNone, closing_at}
use Rattle.test_table.proofs.leaving.closes_all.Given as goal

abbrev pub invariant-loop-word : goal.invariant-loop-word
invariant-loop-word g l = (part_seen 512 l.seat.log ≡ closing_at l.bits l.word (part_seen 512 l.fn.seat.log))
    × IsSameSeat l.fn.seat l.seat × CountsNone l.seat.log
