use Rattle.brc_run.proofs.Taken.{clears_up}
use Rattle.brc_run.proofs.clearing.clear.Goals as goal

pub returns-in-Ok-clause-clears : goal.returns-in-Ok-clause-clears
returns-in-Ok-clause-clears g c =
    let registered = c.in_ok-mutator.ensures in
    clears_up c.args.root.now c.register.new.self c.settle_and_join-ledger.new.root c.clear_rounds-cleared.new.mutator
    c.settle_and_join-ledger.result registered.root registered.same_root.0 c.in-Ok.ensures.none
    c.settle_and_join-ledger.ensures.ended
    c.settle_and_join-ledger.ensures.same_root.0
