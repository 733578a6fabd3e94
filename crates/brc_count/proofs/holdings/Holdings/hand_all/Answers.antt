use Rattle.std.proofs.Common.{rules, arith, ◌≡◌}
use Rattle.brc_count.proofs.Handing.{HandsNext, begun, ended, goes_on}
use Rattle.brc_count.proofs.holdings.Holdings.hand_all.Goals as goal

pub loop-from-init : goal.loop-from-init
loop-from-init g c =
    let same : c.cells-cells.result ≡ c.args.self.now.heap.cells = search rules in (
      same,
      begun c.args.self.now (omega (arith, c.cells-cells.ensures.enough, same)) c.requires.active
          c.requires.unlocked,
    )

pub returns-in_default-clause-hands : goal.returns-in_default-clause-hands
returns-in_default-clause-hands g c = (ended c.args.self.now c.loop-from.self c.loop-from.from
    c.loop-from.invariant.1 (rw (← c.self-in-loop-from.view_is) c.in_default.ensures.none)).hands

pub loop-from-preserved : goal.loop-from-preserved
loop-from-preserved g c =
    let did = c.hand_one.ensures in
    let next : HandsNext c.loop-from.self c.hand_one.new.self c.in-Some.cell = record {
      heap = did.heap;
      thread = did.thread;
      hands = did.hands;
      counts = did.counts;
      active = did.active;
      unlocked = did.unlocked;
      len = did.len;
      popped = did.popped;
    } in (
      c.loop-from.invariant.0,
      goes_on c.args.self.now c.loop-from.self c.hand_one.new.self c.loop-from.from c.in-Some.cell
          c.loop-from.invariant.1 c.in-Some.ensures.some.0
          (rw (← c.self-in-loop-from.view_is) c.in-Some.ensures.some.2) (rw (← c.self-in-loop-from.view_is)
          c.in-Some.ensures.some.3)
          (rw (← c.self-in-loop-from.view_is) c.in-Some.ensures.first) next,
    )
