use Rattle.std.proofs.Common.{◌≡◌, ◌<◌, subst, sym, ◌∙◌, ap}
use Rattle.std.specs.Int.{bit_at}
use Rattle.std.proofs.lemmas.Bool.{eqb-true}
use Rattle.std.proofs.lemmas.Nat.Bits.{shr_and_one}
use Rattle.brc_table.specs.law.world.Lists.{word_at}
use Rattle.brc_count.proofs.Popping.{word_read}
use Rattle.brc_count.proofs.holdings.Holdings.has_bit.Goals as goal

pub returns-clause-inside : goal.returns-clause-inside
returns-clause-inside g c = λ is.
    let low = subst (λ m. c.args.word < m) (sym c.self.invariant.words) (rw (← c.self.view_is) at c.requires.inside) in
    let read = word_read c.self.inside.popped.items c.args.word c.index.result.now c.index.ensures low in
    let set : bit_at (word_at c.self.inside.popped.items c.args.word) c.args.bit ≡ 1 =
    ap (λ w. bit_at w c.args.bit) read ∙ sym (shr_and_one c.index.result.now c.args.bit) ∙ eqb-true _ _ is in
    rw (← c.self.view_is) (c.self.invariant.bits c.args.word c.args.bit set).1
