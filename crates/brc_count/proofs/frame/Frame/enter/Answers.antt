use Rattle.std.proofs.Common.{rules, ◌≡◌, ◌<◌, ◌∙◌, ap}
use Rattle.brc_table.specs.law.world.Heap.{words_for}
use Rattle.brc_table.specs.law.steps.Joining.{starting}
use Rattle.brc_table.specs.Seated.{SeatSeen}
use Rattle.brc_count.specs.Closing.{IsFirst}
use Rattle.brc_count.proofs.Beginning.{started_first, begins_new, new_ledger, begins_again, again_ledger}
use Rattle.brc_count.proofs.frame.Frame.enter.Goals as goal
use Rattle.brc_count.proofs.frame.Frame.enter.Goals.{then-again, else-again}

pub new-holdings-requires-clause-new : goal.new-holdings-requires-clause-new
new-holdings-requires-clause-new g c = started_first c.args.root.now.view c.new-counter.result.seat.log
    (ap (λ (s : SeatSeen g.row.A.Denot). s.log) c.new-counter.ensures.seat ∙ c.split-seat.ensures.begins)

pub invariant_of-result : goal.invariant_of-result
invariant_of-result g c =
    let log : c.new-holdings.result.seat.log ≡ (starting c.args.root.now.view).log = search rules in
    let first : IsFirst c.new-holdings.result.seat.log = started_first c.args.root.now.view _ log in
    let thread : c.new-holdings.result.seat.thread ≡ c.next-thread.result = search rules in
    let some : 0 < c.next-thread.result = search rules in
    let words : 0 < words_for c.new-holdings.result.heap.cells = search rules in
    elim c.if-again.branch [
      | then-again w ↦ rw w.holdings-is (begins_again c.new-holdings.result w.open_all.new.self first
          w.open_all.ensures.same w.open_all.ensures.opens c.next-thread.result thread some w.open_all.ensures.seat
          w.open_all.ensures.stage words)
      | else-again w ↦ rw w.holdings-is (begins_new c.new-holdings.result c.next-thread.result (search rules) thread
          some)
    ]

pub returns-clause-ledger : goal.returns-clause-ledger
returns-clause-ledger g c =
    let log : c.new-holdings.result.seat.log ≡ (starting c.args.root.now.view).log = search rules in
    let first : IsFirst c.new-holdings.result.seat.log = started_first c.args.root.now.view _ log in
    elim c.if-again.branch [
      | then-again w ↦ rw w.holdings-is (again_ledger c.new-holdings.result w.open_all.new.self first
          w.open_all.ensures.same w.open_all.ensures.opens)
      | else-again w ↦ rw w.holdings-is (new_ledger c.new-holdings.result (search rules))
    ]
