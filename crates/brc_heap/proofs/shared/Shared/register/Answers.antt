use Rattle.brc_heap.proofs.At_Desk.{grows_registered}
use Rattle.brc_heap.proofs.shared.Shared.register.Goals as goal

pub put_and_look-sight-requires-clause-grows : goal.put_and_look-sight-requires-clause-grows
put_and_look-sight-requires-clause-grows c =
    grows_registered c.in-Some.clerk _ _ c.in-Some.root c.registered_by.new.root c.in-Some.ensures.clerk
    c.in-Ok.ensures.root
