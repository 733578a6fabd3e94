use Rattle.std.proofs.Common.{arith, Option, Some, refl, ap, subst, ◌∙◌}
use Rattle.brc_count.specs.Frames.{HandleSeen}
use Rattle.brc_count.specs.Polling.{Polled}
use Rattle.brc_count.specs.table.Seated.{TableSeen}
use Rattle.brc_client.specs.Clients.{ClientSeen, KeptGoes}
use Rattle.brc_client.proofs.Gathered.{client_gathered, on_ok}
use Rattle.brc_client.proofs.thread.leave.Goals as goal

pub returns-then-told-ne0-clause-refused : goal.returns-then-told-ne0-clause-refused
returns-then-told-ne0-clause-refused c = record {
  bare = λ has. omega (arith, has, c.if-count-ne0.false, c.count.ensures.count);
  heap = c.args.client.frame.heap;
  was = refl;
  is = ap (λ (h : TableSeen). Some h) (c.work-spare.ensures.keeps.frame.heap ∙ c.poll-told.ensures.keeps.frame.heap
      ∙ ap (λ (s : ClientSeen). s.frame.heap) c.count.ensures.same);
}

pub returns-in_default-clause-refused : goal.returns-in_default-clause-refused
returns-in_default-clause-refused c = record {
  bare = λ has. omega (arith, has, c.if-count-ne0.false, c.count.ensures.count);
  heap = c.args.client.frame.heap;
  was = refl;
  is = ap (λ (h : TableSeen). Some h) (ap (λ (s : ClientSeen). s.frame.heap) c.home.ensures.same
      ∙ c.work-spare.ensures.keeps.frame.heap ∙ c.poll-told.ensures.keeps.frame.heap
      ∙ ap (λ (s : ClientSeen). s.frame.heap) c.count.ensures.same);
}

pub returns-in-Err-clause-refused : goal.returns-in-Err-clause-refused
returns-in-Err-clause-refused c = record {
  bare = λ has. omega (arith, has, c.if-count-ne0.false, c.count.ensures.count);
  heap = c.args.client.frame.heap;
  was = refl;
  is = ap (λ (h : TableSeen). Some h) (ap (λ (s : ClientSeen). s.frame.heap) c.in-Err.ensures.unchanged
      ∙ c.let_none_go.ensures.heap ∙ ap (λ (s : ClientSeen). s.frame.heap) c.home.ensures.same
      ∙ c.work-spare.ensures.keeps.frame.heap ∙ c.poll-told.ensures.keeps.frame.heap
      ∙ ap (λ (s : ClientSeen). s.frame.heap) c.count.ensures.same);
}

pub returns-in-Ok-leave-clause-gathered : goal.returns-in-Ok-leave-clause-gathered
returns-in-Ok-leave-clause-gathered c =
    let bare = c.let_none_go.new.self.frame in
    on_ok c.finish.result.1 c.finish.ensures.gathered (λ gathered.
    client_gathered c.args.client c.poll-told.new.self.frame c.work-spare.new.self.frame bare c.in-Ok-leave.leaving
    c.poll-told.result _ c.finish.result.0
    (subst (λ (s : ClientSeen). Polled s.frame c.poll-told.new.self.frame c.poll-told.result) c.count.ensures.same
    c.poll-told.ensures.polled)
    c.work-spare.ensures.turns
    (subst (λ (n : Option HandleSeen). KeptGoes c.work-spare.new.self.frame n bare)
    (c.work-spare.ensures.keeps.none ∙ c.poll-told.ensures.keeps.none
    ∙ ap (λ (s : ClientSeen). s.none) c.count.ensures.same)
    (subst (λ (s : ClientSeen). KeptGoes s.frame s.none bare) c.home.ensures.same c.let_none_go.ensures.goes))
    c.in-Ok-leave.ensures.goes
    (c.in-Ok-leave.ensures.heap ∙ c.let_none_go.ensures.heap
    ∙ ap (λ (s : ClientSeen). s.frame.heap) c.home.ensures.same
    ∙ c.work-spare.ensures.handles.heap ∙ c.poll-told.ensures.handles.heap
    ∙ ap (λ (s : ClientSeen). s.frame.heap) c.count.ensures.same)
    (c.in-Ok-leave.ensures.thread ∙ c.let_none_go.ensures.thread
    ∙ ap (λ (s : ClientSeen). s.frame.seat.thread) c.home.ensures.same
    ∙ c.work-spare.ensures.handles.thread ∙ c.poll-told.ensures.handles.thread
    ∙ ap (λ (s : ClientSeen). s.frame.seat.thread) c.count.ensures.same)
    gathered)
