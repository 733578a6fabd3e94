use Rattle.bench_heap.proofs.Chained.{gone_trades}
use Rattle.bench_heap.proofs.dict_values.PuttingAndFindingPassing.pass.Goals as goal

pub returns-in-Ok-Some-Object-clause-trades : goal.returns-in-Ok-Some-Object-clause-trades
returns-in-Ok-Some-Object-clause-trades g c =
    let put = rw c.in-Ok-Some-Object.field-0-0-is at rw c.in-Ok-Some-Object.field-0-is at c.in-Ok-Some-Object.ensures.put in
    let gains = rw c.in-Ok-Some-Object.field-0-0-is at rw c.in-Ok-Some-Object.field-0-is at c.in-Ok-Some-Object.ensures.owns in
    gone_trades _ _ _ _ _ gains (rw put.2.did.0 at c.release-in-Ok-Some-Object.ensures.loses) c.requires.owned
