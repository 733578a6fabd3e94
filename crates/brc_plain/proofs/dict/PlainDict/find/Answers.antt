use Rattle.std.proofs.Common.{◌∙◌, Ok, ap, sym, refl}
use Rattle.brc_plain.proofs.Pairs.{found_there, found_nowhere, value_there}
use Rattle.brc_plain.proofs.dict.PlainDict.find.Goals as goal

pub returns-in-Some-clause-found : goal.returns-in-Some-clause-found
returns-in-Some-clause-found g c =
    let there = found_there c.args.key.now c.args.self.now c.in-Some.index (sym c.place.ensures ∙ c.in-Some.is) in
    rw (value_there c.args.key.now c.args.self.now c.in-Some.index c.index.result.now there.1, ← c.self.view_is)
    (ap (λ pair. Ok pair.1) (sym c.index.ensures))

pub returns-in-None-clause-refused : goal.returns-in-None-clause-refused
returns-in-None-clause-refused g c =
    let absent = found_nowhere c.args.key.now c.args.self.now (sym c.place.ensures ∙ c.in-None.is) in
    rw absent refl
