use Rattle.std.proofs.Common.{◌≡◌, ◌<◌, ◌+◌, ◌++◌, ℕ, List, length, get_or, drop, drop-cons, add-one, ap, ◌∙◌, sym}
use Rattle.std.specs.List.{flat_map}
use Rattle.std.proofs.lemmas.Result.{err_from_is_err_and}
use Rattle.brc_text.proofs.PutLaws.{goes_on, fails}
use Rattle.brc_program.specs.declared.facts.LineFact.{LineFact}
use Rattle.brc_program.specs.Explanations.{fact_text}
use Rattle.brc_program.proofs.facts.put_facts.Goals as goal

abbrev text : List LineFact → List ℕ
text given = flat_map fact_text given

-- what is left of the facts is the next one, and what is left behind it
next_fact : (given : List LineFact) (i : ℕ) (other : LineFact) → i < length given
    → text (drop i given) ≡ fact_text (get_or given i other) ++ text (drop (i + 1) given)
next_fact given i other within =
    ap text (drop-cons given i other within)
    ∙ ap (λ (n : ℕ). fact_text (get_or given i other) ++ text (drop n given)) (sym (add-one i))

pub returns-in_err-put_fact : goal.returns-in_err-put_fact
returns-in_err-put_fact g c =
    let p = err_from_is_err_and c.from_residual.result c.from_residual.ensures.1 in
    let behind = text (drop (c.loop-fact.fact-index + 1) c.args.facts.now) in
    rw (p.1, p.2) (
      c.in_err-put_fact.ensures.0,
      c.in_err-put_fact.ensures.1 ++ behind,
      fails _ behind c.loop-fact.invariant (next_fact c.args.facts.now c.loop-fact.fact-index _ c.loop-fact-test.true)
          c.in_err-put_fact.ensures.2,
    )

pub loop-fact-preserved : goal.loop-fact-preserved
loop-fact-preserved g c =
    goes_on _ _ (text (drop (c.loop-fact.fact-index + 1) c.args.facts.now)) c.loop-fact.invariant
    (next_fact c.args.facts.now c.loop-fact.fact-index _ c.loop-fact-test.true) c.in_ok-put_fact.ensures
