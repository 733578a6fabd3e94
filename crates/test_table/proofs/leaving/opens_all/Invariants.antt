use Rattle.std.proofs.Common.{◌≡◌, []}
use Rattle.law.specs.rule.Seen.{part_seen}
use Rattle.brc_table.specs.Seated.{IsSameSeat}
use Rattle.test_table.specs.Leaving.{opening_at}
use Rattle.test_table.proofs.leaving.opens_all.Given as goal

abbrev pub invariant-loop-word : goal.invariant-loop-word
invariant-loop-word l = (part_seen 512 l.seat.log ≡ opening_at l.word (part_seen 512 [])) × IsSameSeat l.fn.seat l.seat
