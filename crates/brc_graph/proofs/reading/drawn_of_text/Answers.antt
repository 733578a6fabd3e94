use Rattle.std.proofs.Common.{◌∙◌, ◌+◌, List, length, sym, ap, arith}
use Rattle.std.proofs.lemmas.Bool.{eqb-true}
use Rattle.brc_text.specs.Lines.{pieces}
use Rattle.brc_text.proofs.NumberLaws.{above_zero}
use Rattle.brc_graph.specs.declared.drawn.Drawn.{Drawn}
use Rattle.brc_graph.specs.Reading.{walk}
use Rattle.brc_graph.proofs.WalkLaws.{line_shorter, open_turn, bad_turn, good_turn, whole_turn, early_turn}
use Rattle.brc_graph.proofs.reading.drawn_of_text.Goals as goal

pub returns-in_default : goal.returns-in_default
returns-in_default g c =
    sym c.loop-rest.invariant.so_far
    ∙ open_turn c.loop-rest.part c.loop-rest.drawn.items c.loop-rest.number c.loop-rest.rest.now
    (above_zero (length c.loop-rest.rest.now) (sym c.is_empty.ensures ∙ c.loop-rest-test.true)) c.in_default.ensures

pub returns-in_default-2 : goal.returns-in_default-2
returns-in_default-2 g c =
    sym c.loop-rest.invariant.so_far
    ∙ bad_turn c.loop-rest.part c.loop-rest.drawn.items c.loop-rest.number c.loop-rest.rest.now c.in-Some.line.now
    c.in-Some.behind.now c.in-Some.ensures.0 c.in-Some.ensures.1
    (sym c.in_ok-next.ensures.read ∙ c.in_default-2.is)

pub loop-rest-smaller : goal.loop-rest-smaller
loop-rest-smaller g c = line_shorter c.loop-rest.rest.now c.in-Some.behind.now c.in-Some.ensures.1

pub loop-rest-preserved : goal.loop-rest-preserved
loop-rest-preserved g c = record {
  so_far = ap (λ (l : List (Drawn g.row.A.Denot)). walk c.in-Some-2.next l (c.loop-rest.number + 1)
      (pieces c.in-Some.behind.now)) c.in_ok-push.ensures.items
      ∙ sym (good_turn c.loop-rest.part c.in-Some-2.next c.loop-rest.drawn.items c.in-Some-2.shown c.loop-rest.number
      c.loop-rest.rest.now c.in-Some.line.now c.in-Some.behind.now c.in-Some.ensures.0 c.in-Some.ensures.1
      (sym c.in_ok-next.ensures.read ∙ c.in-Some-2.is))
      ∙ c.loop-rest.invariant.so_far;
  counted = omega (
    arith,
    line_shorter c.loop-rest.rest.now c.in-Some.behind.now c.in-Some.ensures.1,
    c.loop-rest.invariant.counted,
  );
}

pub returns-then-not-is_whole : goal.returns-then-not-is_whole
returns-then-not-is_whole g c =
    sym c.loop-rest.invariant.so_far
    ∙ early_turn c.loop-rest.part c.loop-rest.drawn.items c.loop-rest.number c.loop-rest.rest.now
    (eqb-true _ _ (sym c.is_empty.ensures ∙ c.loop-rest-test.false))
    (sym c.is_whole.ensures ∙ c.if-not-is_whole.true)

pub returns : goal.returns
returns g c =
    sym c.loop-rest.invariant.so_far
    ∙ whole_turn c.loop-rest.part c.loop-rest.drawn.items c.loop-rest.number c.loop-rest.rest.now
    (eqb-true _ _ (sym c.is_empty.ensures ∙ c.loop-rest-test.false))
    (sym c.is_whole.ensures ∙ c.if-not-is_whole.false)
