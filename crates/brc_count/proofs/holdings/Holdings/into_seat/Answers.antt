use Rattle.std.proofs.Common.{◌≡◌, true, refl, sym, subst, ap}
use Rattle.brc_table.specs.law.world.Lists.{is_blank}
use Rattle.brc_table.specs.law.world.Steps.{is_left, is_free_hand}
use Rattle.brc_table.specs.law.rule.Seen.{part_seen}
use Rattle.brc_table.specs.law.steps.Joining.{HasLeft}
use Rattle.brc_table.specs.Seated.{SeatSeen, view_of}
use Rattle.brc_count.specs.Frames.{FrameSeen, Holding, popped_seen}
use Rattle.brc_count.proofs.Leaving.{holds_unmarked}
use Rattle.brc_count.proofs.holdings.Holdings.into_seat.Goals as goal

pub returns-clause-leaves : goal.returns-clause-leaves
returns-clause-leaves g c =
    let seat = c.self.inside.counter.seat in
    let n = c.self.inside.counter.heap.cells in
    let none = rw (← c.self.view_is) at c.requires.empty in
    let keeps = subst (λ w. Holding g.row.A.Denot c.self.inside.counter.heap seat c.self.inside.places w
    c.self.inside.popped.items c.self.inside.ledger) none c.self.invariant in
    let leaves : HasLeft n (view_of seat) = record {
      active = refl;
      some_thread = rw (← c.self.view_is) at c.requires.some_thread;
      left = subst (λ (f : FrameSeen g.row.A.Denot). is_left (part_seen f.heap.cells f.seat.log).row.stage ≡ true)
          (sym c.self.view_is) c.requires.left;
      hand = ap is_free_hand c.self.invariant.hand_is;
      popped = subst (λ (f : FrameSeen g.row.A.Denot). is_blank (popped_seen f) ≡ true)
          (sym c.self.view_is) c.requires.blank;
      worklist = holds_unmarked keeps;
    } in
    subst (λ (s : SeatSeen g.row.A.Denot). HasLeft c.args.self.heap.cells (view_of s))
    (sym c.into_parts-heap.ensures.seat)
    (subst (λ (f : FrameSeen g.row.A.Denot). HasLeft f.heap.cells (view_of seat)) c.self.view_is leaves)
