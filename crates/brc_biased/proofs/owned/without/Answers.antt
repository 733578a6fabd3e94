use Rattle.std.proofs.Common.{w64, arith}
use Rattle.std.proofs.lemmas.Nat.Bits.{bit_at_clear_other}
use Rattle.brc_biased.proofs.owned.without.Goals as goal

pub returns : goal.returns
returns c = record {
  others = λ i small other. bit_at_clear_other w64 c.args.bits c.args.at (omega (arith, c.requires.low)) i
      (omega (arith, small)) other;
}
