use Rattle.brc_count.specs.table.Seated.{view_of}
use Rattle.brc_heap.proofs.At_Desk.{grows_gathered}
use Rattle.brc_heap.proofs.shared.Shared.gather.Goals as goal

pub put-seen-requires-clause-grows : goal.put-seen-requires-clause-grows
put-seen-requires-clause-grows c =
    grows_gathered c.in-Some.clerk _ _ c.in-Some.root c.gather.new.self (view_of c.args.retired.seat)
    c.in-Some.ensures.clerk c.gather.ensures.gathered
