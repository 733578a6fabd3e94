use Rattle.std.proofs.Common.{rules}
use Rattle.brc_loops.proofs.Reversing.{reversing_more}
use Rattle.brc_loops.proofs.errands.answered.Goals as goal

pub loop-errand-preserved : goal.loop-errand-preserved
loop-errand-preserved g c = record {
  reversing =
      reversing_more _ _ _ _ _ _ _ _ c.in-Some.ensures.items c.push_reserved.ensures.items c.in-Some-answer.is
      c.loop-errand.invariant.reversing;
  room = search rules;
}

pub loop-errand-preserved-in-Some-answer : goal.loop-errand-preserved-in-Some-answer
loop-errand-preserved-in-Some-answer g c = record {
  reversing =
      reversing_more _ _ _ _ _ _ _ _ c.in-Some.ensures.items c.push_reserved.ensures.items c.in-Some-answer.is
      c.loop-errand.invariant.reversing;
  room = search rules;
}
