use Rattle.std.proofs.Common.{[], ◌∷◌, Err, sym, subst}
use Rattle.brc_words.specs.declared.fault.Fault.TheVariants as faults
use Rattle.brc_section.specs.Running.{RunsOn}
use Rattle.brc_section.proofs.Runs.{line_runs, line_stops, gate_stops}
use Rattle.brc_count.proofs.law.living.Earlier.{later_same}
use Rattle.brc_section.proofs.Wants_Of.{goes_one, halts_one}
use Rattle.brc_section.proofs.running.run_line.Goals as goal

pub returns-then-not-at-clause-runs : goal.returns-then-not-at-clause-runs
returns-then-not-at-clause-runs g c =
    subst (λ n. RunsOn c.args.frame.now c.args.registers.now c.args.lines.now.items c.args.frame.now c.args.registers.now
    c.args.lines.now.items (c.args.line.now ∷ [])
    (Err (record { fault = faults.Busy; line = n })))
    (sym c.number-number.ensures) (gate_stops c.args.line.now)

pub returns-in-Ok-clause-runs : goal.returns-in-Ok-clause-runs
returns-in-Ok-clause-runs g c = line_runs c.args.line.now c.in-Ok.ensures.follows

pub returns-in-Err-clause-runs : goal.returns-in-Err-clause-runs
returns-in-Err-clause-runs g c =
    subst (λ n. RunsOn c.args.frame.now c.args.registers.now c.args.lines.now.items c.do_line.new.frame
    c.do_line.new.registers c.do_line.new.lines.items (c.args.line.now ∷ [])
    (Err (record { fault = c.in-Err.fault; line = n })))
    (sym c.number-number.ensures)
    (line_stops c.args.line.now c.in-Err.fault c.in-Err.ensures.waits c.in-Err.ensures.follows)

pub returns-then-not-at-clause-wants : goal.returns-then-not-at-clause-wants
returns-then-not-at-clause-wants g c own = halts_one _ (later_same c.args.frame.now.seat.log) tt

pub returns-in-Ok-clause-wants : goal.returns-in-Ok-clause-wants
returns-in-Ok-clause-wants g c own = goes_one c.do_line.ensures.later

pub returns-in-Err-clause-wants : goal.returns-in-Err-clause-wants
returns-in-Err-clause-wants g c own = halts_one _ c.do_line.ensures.later (c.in-Err.ensures.caused own.0)
