use Rattle.std.proofs.Common.{subst}
use Rattle.brc_section.specs.Running.{NotesShown}
use Rattle.brc_section.proofs.Line_Did.{print_refused, print_done}
use Rattle.brc_section.proofs.Wants_Of.{later_polled, later_worked, caused_noted}
use Rattle.brc_section.proofs.running.print_line.Goals as goal

pub returns-in-Err-clause-follows : goal.returns-in-Err-clause-follows
returns-in-Err-clause-follows g c = λ base s here.
    let read = c.read-shown in
    print_refused base c.args.frame.now read.new.frame c.poll-told.new.self c.args.registers.now
    c.args.lines.now.items c.note.new.lines.items s c.args.from here read.ensures.heap read.ensures.later
    c.poll-told.ensures.own c.poll-told.result c.poll-told.ensures.polled c.poll-told.ensures.handles read.result
    c.in-Err.fault read.ensures.finds
    (subst (NotesShown read.result c.args.lines.now.items c.note.new.lines.items) c.in-Err.is c.note.ensures)

pub returns-clause-follows : goal.returns-clause-follows
returns-clause-follows g c = λ base s here.
    let read = c.read-shown in
    print_done base c.args.frame.now read.new.frame c.poll-told.new.self c.args.registers.now
    c.args.lines.now.items c.note.new.lines.items s c.args.from here read.ensures.heap read.ensures.later
    c.poll-told.ensures.own c.poll-told.result c.poll-told.ensures.polled c.poll-told.ensures.handles read.result
    c.work-left.new.self _ read.ensures.finds
    (subst (NotesShown read.result c.args.lines.now.items c.note.new.lines.items) c.in-Ok.is c.note.ensures)
    c.work-left.ensures.turns c.work-left.ensures.handles

pub returns-in-Err-clause-later : goal.returns-in-Err-clause-later
returns-in-Err-clause-later g c =
    later_polled c.args.frame.now c.read-shown.new.frame c.poll-told.new.self c.poll-told.result
    c.read-shown.ensures.later c.poll-told.ensures.polled

pub returns-clause-later : goal.returns-clause-later
returns-clause-later g c =
    later_worked c.args.frame.now c.read-shown.new.frame c.poll-told.new.self c.poll-told.result
    c.read-shown.ensures.later c.poll-told.ensures.polled
    c.work-left.new.self _ c.work-left.ensures.turns

pub returns-in-Err-clause-caused : goal.returns-in-Err-clause-caused
returns-in-Err-clause-caused g c =
    caused_noted c.args.frame.now c.poll-told.new.self c.args.lines.now.items c.note.new.lines.items c.read-shown.result
    c.in-Err.fault c.read-shown.ensures.room
    (subst (NotesShown c.read-shown.result c.args.lines.now.items c.note.new.lines.items) c.in-Err.is c.note.ensures)
