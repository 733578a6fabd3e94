use Rattle.brc_client.proofs.Beside.{back_owned, differs_back}
use Rattle.brc_client.proofs.conditional.try_parted.Goals as goal

pub returns-in-Ok-Differs-clause-owns : goal.returns-in-Ok-Differs-clause-owns
returns-in-Ok-Differs-clause-owns g c =
    back_owned _ _ _ c.args.value c.in-Ok-Differs.back
    (differs_back (g.B.Conditional.call c.args.by) c.args.expected _ _ _ _ _ c.args.value c.in-Ok-Differs.back
    (rw c.in-Ok-Differs.field-0-is at c.in-Ok-Differs.ensures.did))
    (rw c.in-Ok-Differs.field-0-is at c.in-Ok-Differs.ensures.owns)
