use Rattle.std.proofs.Common.{length}
use Rattle.brc_model.proofs.edits.+hand_over.Given as goal

abbrev pub decreases-hand_over : goal.decreases-hand_over
decreases-hand_over l = length l.list.now
