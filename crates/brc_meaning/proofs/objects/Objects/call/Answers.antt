use Rattle.std.proofs.Common.{arith}
use Rattle.brc_meaning.specs.Objects.{object_call}
use Rattle.brc_meaning.proofs.Calling.{called_seen}
use Rattle.brc_meaning.proofs.objects.Objects.call.Goals as goal

pub returns : goal.returns
returns g c =
    rw c.in-Object.is
    (called_seen (object_call c.args.call) c.self.inside.made.items c.args.self.now c.in-Object.place
    c.index_mut-object.result.now c.call.new.self c.call.result c.self.view_is
    (omega arith) c.index_mut-object.ensures.value
    c.call.ensures)
