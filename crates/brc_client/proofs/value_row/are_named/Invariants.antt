use Rattle.brc_client.proofs.Marking.{NamedSoFar}
use Rattle.brc_client.proofs.value_row.are_named.Given as goal

-- each number so far names something
abbrev pub invariant-loop-at : goal.invariant-loop-at
invariant-loop-at g l =
    NamedSoFar l.handles l.numbers (g.S.ValueRow.items l.values) l.at l.met l.unsure
