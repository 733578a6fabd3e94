use Rattle.std.proofs.Common.{sym, subst, ap, ◌∙◌, arith}
use Rattle.brc_report.specs.declared.report.Ledger.{Ledger}
use Rattle.brc_report.specs.Holding.{remains_of}
use Rattle.brc_heap.specs.Closing.{Reports}
use Rattle.brc_heap.proofs.Closed.{remains_there, remains_spelled, closes_so, all_counted}
use Rattle.brc_heap.proofs.closing.close.Goals as goal

pub report_of-requires : goal.report_of-requires
report_of-requires g c =
    let heap = c.args.heap in
    let root = c.args.root in
    let same = all_counted root.view c.registered-registered.result c.gathered-gathered.result
    c.registered-registered.ensures.told
    c.registered-registered.ensures.few c.gathered-gathered.ensures (omega (arith, c.if-registered-gathered.false)) in
    record {
      held = λ none. remains_there heap.cells heap.local_limit root.id root.view c.take_apart-rest.result
          c.take_apart-rest.ensures.ended same
          (sym (ap remains_of c.in-Some.ensures) ∙ none);
      spelled = λ remains are. remains_spelled heap.cells heap.local_limit root.id root.view c.take_apart-rest.result
          c.take_apart-rest.ensures.ended same
          remains (sym (ap remains_of c.in-Some.ensures) ∙ are);
    }

pub returns-in-Some-report_of-clause-report : goal.returns-in-Some-report_of-clause-report
returns-in-Some-report_of-clause-report g c =
    let heap = c.args.heap in
    let root = c.args.root in
    let same = all_counted root.view c.registered-registered.result c.gathered-gathered.result
    c.registered-registered.ensures.told
    c.registered-registered.ensures.few c.gathered-gathered.ensures (omega (arith, c.if-registered-gathered.false)) in
    let ledger : Ledger = record { allocs = c.ledger-done.result.allocs; frees = c.ledger-done.result.frees } in
    closes_so heap.cells heap.local_limit root.id root.view c.take_apart-rest.result
    c.take_apart-rest.ensures.ended same
    ledger c.in-Some-report_of.report c.ledger-done.ensures.allocs c.ledger-done.ensures.frees
    (subst (λ contents. Reports ledger contents c.in-Some-report_of.report) c.in-Some.ensures
    c.in-Some-report_of.ensures)
