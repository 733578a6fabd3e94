use Rattle.std.proofs.Common.{w64, arith, inl, inr}
use Rattle.std.proofs.lemmas.Bool.{cases_lt}
use Rattle.std.proofs.lemmas.Nat.Bits.{bit_at-trailing_zeros}
use Rattle.brc_count.proofs.polling.lowest.Goals as goal

pub returns : goal.returns
returns c = elim (cases_lt 0 c.args.bits) [
  | inl some ↦ (bit_at-trailing_zeros w64 c.args.bits some c.ranges.bits.fits).1
  | inr none ↦ absurd (c.requires (omega (arith, none)))
]
