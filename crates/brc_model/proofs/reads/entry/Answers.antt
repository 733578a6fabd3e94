use Rattle.std.proofs.Common.{◌∙◌}
use Rattle.brc_model.proofs.Entries.{entry_read}
use Rattle.brc_model.proofs.reads.entry.Goals as goal

pub returns : goal.returns
returns c = c.entry_of.ensures ∙ entry_read c.args.facts.now c.args.cell c.args.index c.in_ok-place.place _
    c.in_ok-place.ensures.there
