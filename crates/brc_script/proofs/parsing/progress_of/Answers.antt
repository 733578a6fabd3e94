use Rattle.std.proofs.Common.{◌≡◌, ◌∙◌, Some, None, sym, arith}
use Rattle.std.proofs.lemmas.Bool.{eqb-true}
use Rattle.brc_script.specs.Walks.{lines_of, turn_at}
use Rattle.brc_script.proofs.WalkLaws.{bad_turn, good_turn, no_turn, few_turned}
use Rattle.brc_script.proofs.parsing.progress_of.Goals as goal

pub returns-in_default-clause-read : goal.returns-in_default-clause-read
returns-in_default-clause-read g c =
    let line = c.first_line.result.0.now in
    let later = lines_of c.first_line.result.1.now in
    let bad : turn_at c.loop-rest.progress c.loop-rest.number line later ≡ None = sym c.in_ok-next.ensures.read
    ∙ c.in_default.is in
    sym c.loop-rest.invariant.so_far ∙ bad_turn c.loop-rest.progress c.loop-rest.number c.loop-rest.rest.now line later
    c.first_line.ensures.lines bad

pub loop-rest-preserved : goal.loop-rest-preserved
loop-rest-preserved g c =
    let line = c.first_line.result.0.now in
    let later = lines_of c.first_line.result.1.now in
    let turned : turn_at c.loop-rest.progress c.loop-rest.number line later ≡ Some c.in-Some.next =
    sym c.in_ok-next.ensures.read ∙ c.in-Some.is in
    record {
      so_far = sym (good_turn c.loop-rest.progress c.in-Some.next c.loop-rest.number c.loop-rest.rest.now line later
          c.first_line.ensures.lines turned) ∙ c.loop-rest.invariant.so_far;
      counted = omega (arith, c.first_line.ensures.shorter, c.loop-rest.invariant.counted);
      few = few_turned c.loop-rest.progress c.in-Some.next c.loop-rest.number line later turned
          c.loop-rest.invariant.few;
    }

pub returns-clause-read : goal.returns-clause-read
returns-clause-read g c =
    sym c.loop-rest.invariant.so_far
    ∙ no_turn c.loop-rest.progress c.loop-rest.number c.loop-rest.rest.now
    (eqb-true _ _ (sym c.is_empty.ensures ∙ c.loop-rest-test.false))
