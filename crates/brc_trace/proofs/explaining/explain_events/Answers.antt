use Rattle.std.proofs.Common.{Err, ap}
use Rattle.brc_core.specs.declared.world.StepFault.{StepFault}
use Rattle.brc_trace.proofs.ExplainingLaws.{refused_at}
use Rattle.brc_trace.proofs.explaining.explain_events.Goals as goal

pub returns-in-Err-NotEnabled : goal.returns-in-Err-NotEnabled
returns-in-Err-NotEnabled g c =
    refused_at c.args.world c.args.first c.args.events.now c.loop-at.at c.loop-at.world c.step.new.self _
    c.refused_here.result c.loop-at.invariant c.loop-at-test.true
    (c.in-Err-NotEnabled.ensures.not_enabled.0 (ap (λ (f : StepFault). Err f) c.in-Err-NotEnabled.field-0-is))
    c.in-Err-NotEnabled.ensures.unchanged c.refused_here.ensures
