use Rattle.std.proofs.Common.{refl}
use Rattle.brc_table.specs.law.rule.Seen.{part_seen}
use Rattle.brc_count.specs.Closing.{NoWord}
use Rattle.brc_count.proofs.Leaving.{is_first}
use Rattle.brc_count.proofs.holdings.Holdings.close_all.Goals as goal

pub loop-word-init : goal.loop-word-init
loop-word-init g c = (
  NoWord,
  refl,
  refl,
  is_first (part_seen c.args.self.now.heap.cells c.args.self.now.seat.log).row.stage c.requires.active,
  c.requires.unlocked,
  c.requires.idle,
  c.requires.none,
)
