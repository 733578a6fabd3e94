use Rattle.brc_block.specs.Lent_Keys.{key_lent}
use Rattle.brc_block.proofs.Keyed.{found_key, before_key, absent_key}
use Rattle.brc_block.proofs.key_map.KeyMap.find.Goals as goal

pub returns-clause-found : goal.returns-clause-found
returns-clause-found g c = found_key (key_lent c.args.key) _ _ c.index_of.ensures.first

pub returns-clause-first : goal.returns-clause-first
returns-clause-first g c = before_key (key_lent c.args.key) _ _ c.index_of.ensures.first

pub returns-clause-none : goal.returns-clause-none
returns-clause-none g c = absent_key (key_lent c.args.key) _ _ c.index_of.ensures.there
