use Rattle.brc_block.proofs.worklist.Worklist.pop.Goals as goal

pub fill-requires : goal.fill-requires
fill-requires g c = record { empty = c.take_all-all.ensures.empty }

pub from_node-front-requires : goal.from_node-front-requires
from_node-front-requires g c = record { alone = c.take_all-rest.ensures.empty }
