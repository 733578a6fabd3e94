use Rattle.std.proofs.Common.{rules, sym, subst}
use Rattle.brc_loops.proofs.Turning.{no_turn, one_more}
use Rattle.brc_loops.proofs.filling.fill.Goals as goal

pub loop-before-init : goal.loop-before-init
loop-before-init g c = record {
  gives = no_turn _ _;
  each = search rules;
  count = search rules;
  more = search rules;
  heap = search rules;
  unlocked = search rules;
  owns = search rules;
  apart = search rules;
}

pub loop-before-preserved : goal.loop-before-preserved
loop-before-preserved g c = record {
  gives =
      one_more _ _ _ _ _ c.loop-before.invariant.gives (
        c.in_ok-handle.handle,
        subst (λ frame.
            g.S.Source.gives c.args.source.now c.loop-before.before c.loop-before.frame frame c.in_ok-handle.handle)
            (sym c.in-Ok.ensures.kept.0) c.in_ok-handle.ensures.gives,
        c.in-Ok.ensures.pushed,
      );
  each = search rules;
  count = search rules;
  more = search rules;
  heap = search rules;
  unlocked = search rules;
  owns = search rules;
  apart = search rules;
}
