use Rattle.std.proofs.Common.{◌<◌, arith, w64}
use Rattle.std.proofs.lemmas.Nat.Bits.{bit_at-trailing_zeros}
use Rattle.brc_biased.proofs.seek.zeros_below.Goals as goal

pub returns-else-number-eq0-clause-zeros : goal.returns-else-number-eq0-clause-zeros
returns-else-number-eq0-clause-zeros c = let some : 0 < c.args.number = omega (arith, c.if-number-eq0.false) in
    (bit_at-trailing_zeros w64 c.args.number some (omega (arith, c.ranges.number))).2
