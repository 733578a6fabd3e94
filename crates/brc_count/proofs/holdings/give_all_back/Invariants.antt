use Rattle.std.proofs.Common.{length}
use Rattle.brc_count.proofs.holdings.give_all_back.Given as goal

abbrev pub decreases-loop-block : goal.decreases-loop-block
decreases-loop-block g l = length l.works
