use Rattle.brc_words.specs.declared.limits.TheConstants.{MOST_THREADS}
use Rattle.law.specs.world.Holding.{carries}
use Rattle.law.specs.rule.Seen.{part_seen}
use Rattle.brc_table.proofs.Bounding.{cell_of}
use Rattle.brc_table.proofs.table.HeapTable.load_owner.Given as goal

abbrev pub ghosts-look_within : goal.ghosts-look_within
ghosts-look_within g a =
    record {
      word = a.word;
      known = carries (cell_of a.word) (part_seen a.table.now.cells a.seat.now.me.0.log).row.hand;
      most = MOST_THREADS;
    }
