use Rattle.std.proofs.Common.{ap, ◌∙◌}
use Rattle.std.specs.Option.{option_map}
use Rattle.std.proofs.lemmas.Option.{slice_get-map}
use Rattle.brc_words.specs.Notes.{cells_of}
use Rattle.brc_words.proofs.Cells.{cells_there, cells_removed}
use Rattle.brc_block.specs.Pairs.{keys_in, noted_in}
use Rattle.brc_block.proofs.Columns.{map-remove}
use Rattle.brc_block.proofs.payload.Payload.remove.Goals as goal

pub returns-in-Dict-clause-noted : goal.returns-in-Dict-clause-noted
returns-in-Dict-clause-noted g c =
    rw c.in-Dict.is
    (slice_get-map (λ pair. pair.1) c.in-Dict.pairs.items c.args.index
    ∙ ap (option_map (λ pair. pair.1)) c.remove_pair.ensures.taken.1)

pub returns-in-Dict-clause-taken : goal.returns-in-Dict-clause-taken
returns-in-Dict-clause-taken g c =
    rw c.in-Dict.is
    (cells_there (noted_in c.in-Dict.pairs.items) c.args.index c.remove_pair.result
    (slice_get-map (λ pair. pair.1) c.in-Dict.pairs.items c.args.index
    ∙ ap (option_map (λ pair. pair.1)) c.remove_pair.ensures.taken.1))

pub returns-in-Dict-clause-noted_left : goal.returns-in-Dict-clause-noted_left
returns-in-Dict-clause-noted_left g c =
    rw c.in-Dict.is
    (ap noted_in c.remove_pair.ensures.left
    ∙ map-remove (λ pair. pair.1) c.in-Dict.pairs.items c.args.index)

pub returns-in-Dict-clause-left : goal.returns-in-Dict-clause-left
returns-in-Dict-clause-left g c =
    rw c.in-Dict.is
    (ap cells_of
    (ap noted_in c.remove_pair.ensures.left
    ∙ map-remove (λ pair. pair.1) c.in-Dict.pairs.items c.args.index)
    ∙ cells_removed (noted_in c.in-Dict.pairs.items) c.args.index)

pub returns-in-Dict-clause-keys : goal.returns-in-Dict-clause-keys
returns-in-Dict-clause-keys g c =
    rw c.in-Dict.is
    (ap keys_in c.remove_pair.ensures.left
    ∙ map-remove (λ pair. pair.0) c.in-Dict.pairs.items c.args.index)
