use Rattle.brc_client.specs.Value_Row.{Restores}
use Rattle.brc_client.proofs.value_row.restore_each.Given as goal

-- each number so far is restored
abbrev pub invariant-loop-at : goal.invariant-loop-at
invariant-loop-at g l = Restores (g.S.ValueRow.items l.values) l.at l.fn.numbers l.numbers
