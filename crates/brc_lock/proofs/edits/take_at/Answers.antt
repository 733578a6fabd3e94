use Rattle.std.proofs.Common.{sym, ◌∙◌, ap, slice_get, map}
use Rattle.brc_words.proofs.Cells.{cells_there}
use Rattle.brc_count.specs.law.rule.Logs.{noted_in}
use Rattle.brc_count.specs.law.declared.rule.contents.Contents.TheVariants as contents
use Rattle.brc_count.specs.law.rule.Logs.{entries_in}
use Rattle.brc_count.specs.block.declared.payload.Payload.TheVariants as payloads
use Rattle.brc_count.specs.table.Shown.{contents_of}
use Rattle.brc_lock.specs.Edits.{without}
use Rattle.brc_lock.proofs.Edited.{plain, plain_get, plain_remove}
use Rattle.brc_lock.proofs.edits.take_at.Goals as goal

pub returns-in-Dict-clause-taken : goal.returns-in-Dict-clause-taken
returns-in-Dict-clause-taken g c =
    ap (λ p. slice_get (entries_in (contents_of p)) c.args.index) c.in-Dict.is
    ∙ cells_there (noted_in (contents_of (payloads.Dict c.in-Dict.pairs))) c.args.index c.remove-key.result.1
    (plain_get c.in-Dict.pairs.items c.args.index c.remove-key.result c.remove-key.ensures.taken)

pub returns-in-Dict-clause-left : goal.returns-in-Dict-clause-left
returns-in-Dict-clause-left g c =
    ap (λ items. contents.Dict (map plain items)) c.remove-key.ensures.left
    ∙ ap contents.Dict (plain_remove c.in-Dict.pairs.items c.args.index)
    ∙ sym (ap (λ p. without (contents_of p) c.args.index) c.in-Dict.is)
