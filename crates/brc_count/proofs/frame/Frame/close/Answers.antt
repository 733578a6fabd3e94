use Rattle.std.proofs.Common.{◌<◌, subst, ap, ◌∙◌, arith}
use Rattle.brc_table.specs.law.world.Heap.{words_for}
use Rattle.brc_table.specs.law.world.Steps.{is_left}
use Rattle.brc_table.specs.Seated.{TableSeen}
use Rattle.brc_count.specs.Frames.{FrameSeen}
use Rattle.brc_count.specs.Closing.{ClosesWords, GoesOut}
use Rattle.brc_count.proofs.Leaving.{stage_left}
use Rattle.brc_count.proofs.frame.Frame.close.Goals as goal

pub invariant_of-result : goal.invariant_of-result
invariant_of-result g c =
    let n = c.hand_all.new.self.heap.cells in
    let stage = ap is_left c.close_all.ensures.stage
    ∙ stage_left (words_for n) (subst (λ m. 0 < m) c.words-words.ensures.words c.words-words.ensures.some) in
    record {
      same_thread = c.close_all.ensures.thread ∙ c.hand_all.ensures.thread ∙ c.self.invariant.same_thread;
      some_thread = c.self.invariant.some_thread;
      left = rw c.close_all.ensures.heap stage;
      unlocked = c.close_all.ensures.unlocked;
      done = λ k low. absurd (omega (arith, low));
    }

pub returns-clause-goes : goal.returns-clause-goes
returns-clause-goes g c = subst (λ (f : FrameSeen g.row.A.Denot). GoesOut f c.close_all.new.self) c.self.view_is
    record {
      mid = c.hand_all.new.self;
      hands = c.hand_all.ensures.hands;
      closes = subst (λ (h : TableSeen). ClosesWords c.hand_all.new.self.seat.log (words_for h.cells)
          c.close_all.new.self.seat.log) c.hand_all.ensures.heap c.close_all.ensures.closes;
    }
