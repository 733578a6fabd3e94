use Rattle.std.proofs.Common.{sym, ◌∙◌, ap}
use Rattle.brc_count.specs.law.declared.rule.contents.Contents.TheVariants as contents
use Rattle.brc_count.specs.table.Shown.{contents_of}
use Rattle.brc_lock.specs.Edits.{replaced}
use Rattle.brc_lock.proofs.Edited.{plain_set}
use Rattle.brc_lock.proofs.edits.set_at.Goals as goal

pub returns-in-Dict : goal.returns-in-Dict
returns-in-Dict g c =
    ap contents.Dict (plain_set c.in-Dict.pairs.items c.set-in-Dict.new.self.items c.args.index c.args.entry
    c.set-in-Dict.ensures.keys c.set-in-Dict.ensures.set)
    ∙ sym (ap (λ p. replaced (contents_of p) c.args.index c.args.entry) c.in-Dict.is)
