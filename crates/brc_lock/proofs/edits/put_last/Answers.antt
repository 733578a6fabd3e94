use Rattle.std.proofs.Common.{subst}
use Rattle.brc_count.specs.block.declared.payload.Payload.TheVariants as payloads
use Rattle.brc_count.specs.table.Shown.{contents_of}
use Rattle.brc_lock.specs.Edits.{KeyFits}
use Rattle.brc_lock.proofs.Edited.{absent_plainly}
use Rattle.brc_lock.proofs.edits.put_last.Goals as goal

pub put_reserved-requires-in-Some-clause-absent : goal.put_reserved-requires-in-Some-clause-absent
put_reserved-requires-in-Some-clause-absent g c =
    absent_plainly c.in-Dict.pairs.items c.in-Some.key
    (subst (KeyFits (contents_of (payloads.Dict c.in-Dict.pairs))) c.in-Some.is
    (subst (λ p. KeyFits (contents_of p) c.args.key) c.in-Dict.is c.requires.fits))
