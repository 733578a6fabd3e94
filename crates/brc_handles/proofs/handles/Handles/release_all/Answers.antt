use Rattle.std.proofs.Common.{rules}
use Rattle.brc_count.specs.law.living.Quiet.{NoItem}
use Rattle.brc_count.proofs.law.living.Quiet_Items.{quietly_joined}
use Rattle.brc_handles.proofs.handles.Handles.release_all.Goals as goal

pub loop-index-init : goal.loop-index-init
loop-index-init g c = record {
  each = search rules;
  count = search rules;
  heap = search rules;
  unlocked = search rules;
  len = search rules;
  empty = search rules;
  places = search rules;
  owns = search rules;
  quiet = NoItem;
}

pub loop-index-preserved : goal.loop-index-preserved
loop-index-preserved g c = record {
  each = search rules;
  count = search rules;
  heap = search rules;
  unlocked = search rules;
  len = search rules;
  empty = search rules;
  places = search rules;
  owns = search rules;
  quiet = quietly_joined c.args.frame.now.seat.log c.loop-index.frame.seat.log c.release.new.frame.seat.log
      c.loop-index.invariant.quiet c.release.ensures.quiet;
}
