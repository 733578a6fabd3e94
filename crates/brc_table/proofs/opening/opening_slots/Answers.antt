use Rattle.std.proofs.Common.{rules}
use Rattle.brc_table.proofs.Opened.{one_more_slot}
use Rattle.brc_table.proofs.opening.opening_slots.Goals as goal

pub loop-cell-preserved : goal.loop-cell-preserved
loop-cell-preserved g c = one_more_slot c.loop-cell.cell c.loop-cell.made.items c.push.new.self.items c.in-Ok.slot
    (search rules) c.loop-cell.invariant (search rules)
