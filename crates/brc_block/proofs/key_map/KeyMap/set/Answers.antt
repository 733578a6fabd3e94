use Rattle.std.proofs.Common.{ap, ◌∙◌, slice_set}
use Rattle.indexmap.proofs.CallerLemmas.{keys-with_value_at}
use Rattle.brc_block.specs.Pairs.{keys_in, noted_in}
use Rattle.brc_block.proofs.Keyed.{noted-set_value_at}
use Rattle.brc_block.proofs.key_map.KeyMap.set.Goals as goal

pub returns-clause-set : goal.returns-clause-set
returns-clause-set g c =
    noted-set_value_at c.self.inside.map.entries c.args.index c.args.entry
    ∙ ap (λ row. slice_set (noted_in row.items) c.args.index c.args.entry) c.self.view_is

pub returns-clause-keys : goal.returns-clause-keys
returns-clause-keys g c =
    keys-with_value_at c.self.inside.map c.args.index c.args.entry ∙ ap (λ row. keys_in row.items) c.self.view_is
