use Rattle.std.proofs.Common.{◌∙◌, length, Err, sym, ap, arith}
use Rattle.std.proofs.lemmas.Bool.{eqb-true}
use Rattle.brc_core.specs.declared.world.StepFault.{StepFault}
use Rattle.brc_text.proofs.NumberLaws.{above_zero}
use Rattle.brc_trace.specs.Traces.{first_number}
use Rattle.brc_trace.proofs.ReadingLoop.{line_shorter}
use Rattle.brc_trace.proofs.SteppingLaws.{first_early, nothing_made, step_made, all_made, line_is_bad, line_is_refused}
use Rattle.brc_trace.proofs.trace_steps.step_lines.Goals as goal

pub loop-rest-init : goal.loop-rest-init
loop-rest-init g c =
    rw c.head_number-number.ensures (
    nothing_made c.args.edition (first_number c.args.edition) c.args.world.now c.args.text.now
    (first_early c.args.edition) c.requires
    )

pub returns-in_default : goal.returns-in_default
returns-in_default g c =
    rw c.not_a_line.ensures (
    line_is_bad c.args.edition (first_number c.args.edition) c.args.world.now c.loop-rest.world c.args.text.now
    c.loop-rest.rest.now c.loop-rest.number c.loop-rest.invariant
    (above_zero (length c.loop-rest.rest.now) (sym c.is_empty.ensures ∙ c.loop-rest-test.true)) c.in_default.ensures
    )

pub fault_of_refused-requires : goal.fault_of_refused-requires
fault_of_refused-requires g c =
    omega (
      arith,
      line_shorter c.args.edition c.loop-rest.rest.now c.in-Some.behind.now c.in-Some.event
          c.in-Some.ensures,
      c.loop-rest.invariant.short,
    )

pub returns-in-Err-NotEnabled : goal.returns-in-Err-NotEnabled
returns-in-Err-NotEnabled g c =
    line_is_refused c.args.edition (first_number c.args.edition) c.args.world.now c.loop-rest.world c.step.new.self
    c.args.text.now c.loop-rest.rest.now c.in-Some.behind.now c.loop-rest.number c.in-Some.event
    c.fault_of_refused.result c.loop-rest.invariant c.in-Some.ensures
    (c.in-Err-NotEnabled.ensures.not_enabled.0 (ap (λ (f : StepFault). Err f) c.in-Err-NotEnabled.field-0-is))
    c.fault_of_refused.ensures

pub loop-rest-smaller : goal.loop-rest-smaller
loop-rest-smaller g c = line_shorter c.args.edition c.loop-rest.rest.now c.in-Some.behind.now c.in-Some.event
    c.in-Some.ensures

pub loop-rest-preserved : goal.loop-rest-preserved
loop-rest-preserved g c =
    step_made c.args.edition (first_number c.args.edition) c.args.world.now c.loop-rest.world c.step.new.self
    c.args.text.now c.loop-rest.rest.now c.in-Some.behind.now c.loop-rest.number c.in-Some.event
    c.loop-rest.invariant c.in-Some.ensures c.in-Ok.ensures.may c.in-Ok.ensures.ok

pub returns : goal.returns
returns g c =
    all_made c.args.edition (first_number c.args.edition) c.args.world.now c.loop-rest.world c.args.text.now
    c.loop-rest.rest.now c.loop-rest.number c.loop-rest.invariant
    (eqb-true _ _ (sym c.is_empty.ensures ∙ c.loop-rest-test.false))
