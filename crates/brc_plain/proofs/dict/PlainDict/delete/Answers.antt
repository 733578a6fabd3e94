use Rattle.std.proofs.Common.{◌∙◌, sym, refl, arith}
use Rattle.brc_plain.proofs.Pairs.{found_there, found_nowhere, delete_there, distinct_remove}
use Rattle.brc_plain.proofs.dict.PlainDict.delete.Goals as goal

pub invariant_of-self : goal.invariant_of-self
invariant_of-self g c =
    let there = found_there c.args.key.now c.args.self.now c.in-Some.index (sym c.place.ensures ∙ c.in-Some.is) in
    let stands = rw (← c.self.view_is) at there.1 in (
      omega (arith, c.remove-own.ensures.len),
      rw c.remove-own.ensures.items (distinct_remove c.args.key.now _ c.in-Some.index stands c.self.invariant.1),
    )

pub returns-in-Some : goal.returns-in-Some
returns-in-Some g c =
    let there = found_there c.args.key.now c.args.self.now c.in-Some.index (sym c.place.ensures ∙ c.in-Some.is) in
    let stands = rw (← c.self.view_is) at there.1 in
    rw (← c.self.view_is, c.remove-own.ensures.items, c.remove-own.ensures.value)
    (delete_there c.args.key.now c.self.inside.pairs.items c.in-Some.index c.remove-own.result stands)

pub returns-in-None : goal.returns-in-None
returns-in-None g c =
    let absent = found_nowhere c.args.key.now c.args.self.now (sym c.place.ensures ∙ c.in-None.is) in
    rw absent (refl, refl)
