use Rattle.std.proofs.Common.{subst}
use Rattle.law.specs.world.Heap.{Heap}
use Rattle.brc_text.specs.Lines.{pieces}
use Rattle.brc_trace.specs.Traces.{first_number, events_at}
use Rattle.brc_trace.specs.Replaying.{AreMade}
use Rattle.brc_trace.proofs.SteppingLaws.{lines_replayed}
use Rattle.brc_trace.proofs.trace_steps.world_of.Goals as goal

pub returns : goal.returns
returns g c =
    lines_replayed c.in_ok-head.head.edition c.args.text.now c.in_ok-head.behind.now c.in_ok-head.head.cells
    c.in_ok-head.head.local_limit c.step_lines.new.world c.in_ok-head.ensures
    (subst (λ (h : Heap). AreMade h (events_at c.in_ok-head.head.edition (first_number c.in_ok-head.head.edition)
    (pieces c.in_ok-head.behind.now)) c.step_lines.new.world) c.in_ok-world.ensures.world c.in_ok-step_lines.ensures)
