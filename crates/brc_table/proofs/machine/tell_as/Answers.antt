use Rattle.std.proofs.Common.{arith}
use Rattle.law.specs.declared.known.word.Word.TheVariants.{NotifyWord}
use Rattle.brc_table.specs.Shown.{shows}
use Rattle.brc_table.proofs.Placing.{step_told}
use Rattle.brc_table.proofs.machine.tell_as.Goals as goal

pub load-requires : goal.load-requires
load-requires g c =
    step_told shows c.args.seat.now.me (λ there. there) (g.M.ToldItem.item) (NotifyWord 0)
    c.table.invariant c.table.view_is c.spot_of-at.ensures c.requires.same (omega arith) c.requires.allowed
