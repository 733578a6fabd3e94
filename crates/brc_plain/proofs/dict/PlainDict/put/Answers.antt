use Rattle.std.proofs.Common.{◌<◌, ◌∙◌, [], length, ◌∷◌, ◌++◌, ap, sym, arith, get_or, set}
use Rattle.std.proofs.lemmas.List.{length-set}
use Rattle.brc_plain.proofs.Pairs.{found_there, found_nowhere, put_there, put_full, put_more, put_refused, distinct_set}
use Rattle.brc_plain.proofs.Pairs.{distinct_more}
use Rattle.brc_plain.proofs.dict.PlainDict.put.Goals as goal
use Rattle.brc_plain.proofs.dict.PlainDict.put.Goals.{in-Ok, in-Err}

pub invariant_of-self : goal.invariant_of-self
invariant_of-self g c =
    let there = found_there c.args.key c.args.self.now c.in-Some.index (sym c.place.ensures ∙ c.in-Some.is) in
    let stands = rw (← c.self.view_is) at there.1 in (
      rw length-set c.self.invariant.0,
      rw c.index_mut.ensures.value
          (distinct_set c.args.key _ c.self.inside.pairs.items c.in-Some.index c.index_mut.result.now stands
          c.self.invariant.1),
    )

pub returns-in-Some-clause-does : goal.returns-in-Some-clause-does
returns-in-Some-clause-does g c =
    let there = found_there c.args.key c.args.self.now c.in-Some.index (sym c.place.ensures ∙ c.in-Some.is) in
    put_there c.args.key c.args.value c.args.self.now _ c.in-Some.index c.index_mut.result.now _ there.1
    (c.index_mut.ensures.value ∙ ap (λ pairs. get_or pairs c.in-Some.index c.index_mut.result.now) c.self.view_is)
    c.replace-old.ensures.value
    (ap (λ value. set c.self.inside.pairs.items c.in-Some.index (c.index_mut.result.now.0, value))
    c.replace-old.ensures.after
    ∙ ap (λ pairs. set pairs c.in-Some.index (c.index_mut.result.now.0, c.args.value)) c.self.view_is)

pub returns-then-len-clause-does : goal.returns-then-len-clause-does
returns-then-len-clause-does g c =
    let absent = found_nowhere c.args.key c.args.self.now (sym c.place.ensures ∙ c.in_default.is) in
    put_full c.args.key c.args.value c.args.self.now absent (omega (arith, ap length c.self.view_is))

pub invariant_of-self-2 : goal.invariant_of-self-2
invariant_of-self-2 g c =
    let absent = found_nowhere c.args.key c.args.self.now (sym c.place.ensures ∙ c.in_default.is) in
    let none = rw (← c.self.view_is) at absent in
    elim c.match-push.branch [
      | in-Ok w ↦ (
        omega (arith, w.in-Ok.ensures.len),
        rw w.in-Ok.ensures.items
            (distinct_more c.args.key c.args.value c.self.inside.pairs.items none c.self.invariant.1),
      )
      | in-Err w ↦ rw w.in-Err.ensures.items c.self.invariant
    ]

pub returns-clause-does : goal.returns-clause-does
returns-clause-does g c =
    let absent = found_nowhere c.args.key c.args.self.now (sym c.place.ensures ∙ c.in_default.is) in
    let room : length c.args.self.now < 1048576 = omega (arith, ap length c.self.view_is) in
    elim c.match-push.branch [
      | in-Ok w ↦ rw w.result-is (put_more c.args.key c.args.value c.args.self.now _ absent room
          (w.in-Ok.ensures.items ∙ ap (λ pairs. pairs ++ (c.args.key, c.args.value) ∷ []) c.self.view_is))
      | in-Err w ↦ rw w.result-is (put_refused c.args.key c.args.value c.args.self.now _ absent room
          (w.in-Err.ensures.items ∙ c.self.view_is))
    ]
