use Rattle.std.proofs.Common.{w64, inl, inr, sym, ap, ◌∙◌, if◌then◌else◌, ◌*◌, ◌%◌, ◌^◌, bit_or}
use Rattle.std.specs.Int.{bit_at}
use Rattle.std.proofs.lemmas.Bool.{cases_eq, eq-eqb, ne_eqb}
use Rattle.std.proofs.lemmas.Nat.Bits.{bit_at_set_same, bit_at_set_other}
use Rattle.brc_table.proofs.root.with.Goals as goal

pub returns : goal.returns
returns c = λ i small. elim (cases_eq i c.args.at) [
  | inl same ↦ ap (λ k. bit_at (bit_or c.args.bits (1 * 2 ^ c.args.at % 18446744073709551616)) k) same
      ∙ bit_at_set_same w64 c.args.bits c.args.at c.requires
      ∙ sym (ap (λ b. if b then 1 else bit_at c.args.bits i) (eq-eqb i c.args.at same))
  | inr other ↦ bit_at_set_other w64 c.args.bits c.args.at c.requires i other
      ∙ sym (ap (λ b. if b then 1 else bit_at c.args.bits i) (ne_eqb i c.args.at other))
]
