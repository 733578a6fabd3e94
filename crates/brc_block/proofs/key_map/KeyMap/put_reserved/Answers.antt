use Rattle.std.proofs.Common.{◌++◌, [], ◌∷◌, ap, sym, subst, ◌∙◌, ◌≢◌, All}
use Rattle.indexmap.proofs.CallerLemmas.{insert_entry-new}
use Rattle.brc_words.specs.Keys.{same_key}
use Rattle.brc_block.specs.Pairs.{keys_in}
use Rattle.brc_block.proofs.Keyed.{none_there}
use Rattle.brc_block.proofs.key_map.KeyMap.put_reserved.Goals as goal

pub returns-clause-put : goal.returns-clause-put
returns-clause-put g c =
    c.in-Ok.ensures.entries
    ∙ insert_entry-new same_key c.self.inside.map c.args.key c.args.entry
    (none_there c.args.key c.self.inside.map.entries
    (subst (λ row. All (λ other. other ≢ c.args.key) (keys_in row.items)) (sym c.self.view_is) c.requires.absent))
    ∙ ap (λ row. row.items ++ (c.args.key, c.args.entry) ∷ []) c.self.view_is
