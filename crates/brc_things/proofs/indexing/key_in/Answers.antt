use Rattle.std.proofs.Common.{Ok, ◌∙◌, ap, sym}
use Rattle.brc_count.specs.table.Shown.{contents_of}
use Rattle.brc_things.proofs.Indexed.{key_there, key_may}
use Rattle.brc_things.proofs.indexing.key_in.Goals as goal

pub returns-in-Ok-clause-found : goal.returns-in-Ok-clause-found
returns-in-Ok-clause-found g c =
    key_there c.args.payload.now c.args.index c.in_ok-key.key.now c.in_ok-key._entry c.in_ok-key.ensures.there
    ∙ ap (λ key. Ok (key, contents_of c.args.payload.now)) (sym c.in-Ok.ensures)

pub returns-in-Err-clause-refused : goal.returns-in-Err-clause-refused
returns-in-Err-clause-refused g c =
    key_may c.args.payload.now c.args.index c.in_ok-key.key.now c.in_ok-key._entry c.in_ok-key.ensures.there
