use Rattle.brc_client.proofs.Born_Lists.{GoesIn}
use Rattle.brc_client.proofs.client.Client.push_each.Given as goal

-- the values so far went in, and the list awaits the others
abbrev pub invariant-loop-at : goal.invariant-loop-at
invariant-loop-at g l = GoesIn l.list (g.S.ValueRow.items l.values) l.at l.fn.self l.self
