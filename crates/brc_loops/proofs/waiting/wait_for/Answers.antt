use Rattle.std.proofs.Common.{◌+◌, rules}
use Rattle.brc_loops.proofs.Turning.{no_turn, one_more}
use Rattle.brc_loops.proofs.waiting.wait_for.Goals as goal

pub loop-init : goal.loop-init
loop-init g c = (search rules, search rules, search rules, c.requires.unlocked, 0, no_turn _ _)

pub loop-preserved : goal.loop-preserved
loop-preserved g c =
    let was = c.loop.invariant in (
      search rules,
      search rules,
      search rules,
      c.look.ensures.unlocked,
      was.4 + 1,
      one_more _ _ _ _ _ was.5 c.in-NotYet.ensures.looks,
    )
