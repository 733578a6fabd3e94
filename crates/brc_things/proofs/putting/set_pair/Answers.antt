use Rattle.std.proofs.Common.{◌∙◌, ap}
use Rattle.brc_words.specs.Notes.{cells_of}
use Rattle.brc_words.proofs.Cells.{cells_set}
use Rattle.brc_count.specs.block.Pairs.{noted_in}
use Rattle.brc_things.proofs.putting.set_pair.Goals as goal

pub returns-clause-set : goal.returns-clause-set
returns-clause-set g c =
    rw c.in-Dict.is
    (ap cells_of c.set.ensures.set ∙ cells_set (noted_in c.in-Dict.pairs.items) c.args.index c.args.entry)
