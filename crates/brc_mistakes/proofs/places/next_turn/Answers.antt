use Rattle.std.proofs.Common.{◌∙◌, sym, arith}
use Rattle.std.proofs.lemmas.Bool.{eqb-true}
use Rattle.brc_script.specs.Walks.{lines_of}
use Rattle.brc_mistakes.proofs.LineLaws.{first_here, first_later, first_never}
use Rattle.brc_mistakes.proofs.places.next_turn.Goals as goal

pub returns-in-Some : goal.returns-in-Some
returns-in-Some c =
    sym (sym c.loop-rest.invariant.so_far
    ∙ first_here c.loop-rest.at (lines_of c.loop-rest.rest.now) (lines_of c.first_line.result.1.now)
    c.first_line.result.0.now c.in-Some.turn c.first_line.ensures.lines (sym c.in-Some.ensures))

pub loop-rest-preserved : goal.loop-rest-preserved
loop-rest-preserved c = record {
  so_far = sym (first_later c.loop-rest.at (lines_of c.loop-rest.rest.now) (lines_of c.first_line.result.1.now)
      c.first_line.result.0.now c.first_line.ensures.lines (sym c.in_default.ensures))
      ∙ c.loop-rest.invariant.so_far;
  counted = omega (arith, c.first_line.ensures.shorter, c.loop-rest.invariant.counted);
}

pub returns : goal.returns
returns c =
    sym (sym c.loop-rest.invariant.so_far
    ∙ first_never c.loop-rest.at c.loop-rest.rest.now
    (eqb-true _ _ (sym c.is_empty.ensures ∙ c.loop-rest-test.false)))
