use Rattle.std.proofs.Common.{◌<◌, arith, w64}
use Rattle.std.proofs.lemmas.Nat.Bits.{bit_at-trailing_zeros}
use Rattle.brc_table.proofs.root.lowest.Goals as goal

pub returns-else-bits-eq0 : goal.returns-else-bits-eq0
returns-else-bits-eq0 c =
    let some : 0 < c.args.bits = omega (arith, c.if-bits-eq0.false) in
    let is = bit_at-trailing_zeros w64 c.args.bits some (omega (arith, c.ranges.bits)) in
    record { few = omega (arith, is.0); set = λ low. is.1; below = is.2 }
