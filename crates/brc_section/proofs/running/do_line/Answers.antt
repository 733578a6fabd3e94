use Rattle.std.proofs.Common.{◌≡◌, ◌∙◌, false, Ok, Err, ap, sym, subst}
use Rattle.brc_script.specs.Instructions.{is_shared}
use Rattle.brc_script.specs.declared.instruction.Instruction.{Instruction}
use Rattle.brc_meaning.specs.Steps.{after}
use Rattle.brc_section.specs.Running.{Did}
use Rattle.brc_section.proofs.Silent.{silent_of}
use Rattle.brc_section.proofs.Line_Did.{silent_refused, silent_done}
use Rattle.brc_section.proofs.Wants_Of.{later_polled, later_worked, caused_polled}
use Rattle.brc_section.proofs.running.do_line.Goals as goal

pub returns-in-Print-clause-follows : goal.returns-in-Print-clause-follows
returns-in-Print-clause-follows g c = λ base s own here.
    subst (λ (i : Instruction g.row.A.Denot). Did base c.print_line.new.frame c.print_line.new.registers
    c.print_line.new.lines.items s (after i s) c.print_line.result)
    (sym c.in-Print.is ∙ c.instruction-instruction.ensures.is) (c.print_line.ensures.follows base s here)

pub returns-in-Err-clause-follows : goal.returns-in-Err-clause-follows
returns-in-Err-clause-follows g c = λ base s own here.
    let done = c.act-done in
    let line : is_shared c.instruction-instruction.result.now ≡ false = ap is_shared c.instruction-instruction.ensures.is ∙ own
    in subst (λ (i : Instruction g.row.A.Denot). Did base c.poll-told.new.self done.new.registers
    c.args.lines.now.items s (after i s) (Err c.in-Err.fault)) c.instruction-instruction.ensures.is
    (silent_refused base c.args.frame.now done.new.frame c.poll-told.new.self c.args.registers.now
    done.new.registers c.args.lines.now.items s here done.ensures.heap done.ensures.later
    c.poll-told.ensures.own c.poll-told.result c.poll-told.ensures.polled c.poll-told.ensures.handles
    c.instruction-instruction.result.now c.in-Err.fault
    (c.in-Err.ensures.follows line c.instruction-instruction.ensures.differ
    (silent_of c.instruction-instruction.result.now c.in_default.not-Print)))

pub returns-clause-follows : goal.returns-clause-follows
returns-clause-follows g c = λ base s own here.
    let done = c.act-done in
    let line : is_shared c.instruction-instruction.result.now ≡ false = ap is_shared c.instruction-instruction.ensures.is ∙ own
    in let silent = silent_of c.instruction-instruction.result.now c.in_default.not-Print
    in subst (λ (i : Instruction g.row.A.Denot). Did base c.work-left.new.self done.new.registers
    c.args.lines.now.items s (after i s) (Ok tt)) c.instruction-instruction.ensures.is
    (silent_done base c.args.frame.now done.new.frame c.poll-told.new.self c.args.registers.now
    done.new.registers c.args.lines.now.items s here done.ensures.heap done.ensures.later
    c.poll-told.ensures.own c.poll-told.result c.poll-told.ensures.polled c.poll-told.ensures.handles
    c.instruction-instruction.result.now c.work-left.new.self _ silent
    (c.in-Ok.ensures.follows line c.instruction-instruction.ensures.differ silent)
    c.work-left.ensures.turns c.work-left.ensures.handles)

pub returns-in-Err-clause-later : goal.returns-in-Err-clause-later
returns-in-Err-clause-later g c =
    later_polled c.args.frame.now c.act-done.new.frame c.poll-told.new.self c.poll-told.result
    c.act-done.ensures.later c.poll-told.ensures.polled

pub returns-clause-later : goal.returns-clause-later
returns-clause-later g c =
    later_worked c.args.frame.now c.act-done.new.frame c.poll-told.new.self c.poll-told.result
    c.act-done.ensures.later c.poll-told.ensures.polled
    c.work-left.new.self _ c.work-left.ensures.turns

pub returns-in-Err-clause-caused : goal.returns-in-Err-clause-caused
returns-in-Err-clause-caused g c own =
    let line : is_shared c.instruction-instruction.result.now ≡ false = ap is_shared c.instruction-instruction.ensures.is ∙ own
    in caused_polled c.args.frame.now c.act-done.new.frame c.poll-told.new.self c.poll-told.result
    c.act-done.ensures.later c.poll-told.ensures.polled
    c.in-Err.fault c.poll-told.ensures.handles (c.in-Err.ensures.why line)
