use Rattle.std.proofs.Common.{◌∙◌, length, ap, sym, arith}
use Rattle.std.proofs.lemmas.Bool.{eqb-true}
use Rattle.brc_text.proofs.NumberLaws.{above_zero}
use Rattle.brc_trace.specs.Replaying.{told}
use Rattle.brc_trace.proofs.ReadingLoop.{bad_line, line_shorter, no_line}
use Rattle.brc_trace.proofs.SteppingLaws.{told_behind}
use Rattle.brc_trace.proofs.trace_steps.fault_of_refused.Goals as goal

pub returns-in_default : goal.returns-in_default
returns-in_default c =
    c.not_a_line.ensures
    ∙ ap (told c.args.refused)
    (sym (bad_line c.args.edition c.loop-rest.number c.loop-rest.rest.now
    (above_zero (length c.loop-rest.rest.now) (sym c.is_empty.ensures ∙ c.loop-rest-test.true)) c.in_default.ensures))
    ∙ c.loop-rest.invariant.so_far

pub loop-rest-smaller : goal.loop-rest-smaller
loop-rest-smaller c = line_shorter c.args.edition c.loop-rest.rest.now c.in-Some.later.now c.in-Some.field-0-0
    c.in-Some.ensures

pub loop-rest-preserved : goal.loop-rest-preserved
loop-rest-preserved c =
    record {
      so_far = told_behind c.args.edition c.args.refused c.loop-rest.number c.loop-rest.rest.now c.in-Some.later.now
          c.in-Some.field-0-0 c.in-Some.ensures ∙ c.loop-rest.invariant.so_far;
      counted = omega (
        arith,
        line_shorter c.args.edition c.loop-rest.rest.now c.in-Some.later.now c.in-Some.field-0-0
            c.in-Some.ensures,
        c.loop-rest.invariant.counted,
      );
    }

pub returns : goal.returns
returns c =
    ap (told c.args.refused)
    (sym (no_line c.args.edition c.loop-rest.number c.loop-rest.rest.now
    (eqb-true _ _ (sym c.is_empty.ensures ∙ c.loop-rest-test.false))))
    ∙ c.loop-rest.invariant.so_far
