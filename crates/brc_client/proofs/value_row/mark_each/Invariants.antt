use Rattle.brc_client.specs.Value_Row.{AreMarked}
use Rattle.brc_client.proofs.value_row.mark_each.Given as goal

-- each number so far is marked
abbrev pub invariant-loop-at : goal.invariant-loop-at
invariant-loop-at g l = AreMarked (g.S.ValueRow.items l.values) l.at l.fn.numbers l.numbers
