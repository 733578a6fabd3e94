use Rattle.std.proofs.Common.{◌∙◌}
use Rattle.brc_script.specs.declared.instruction.Instruction.TheVariants as instructions
use Rattle.brc_count.proofs.law.living.Earlier.{later_same, later_both}
use Rattle.brc_section.specs.Tries.{StaysMeant}
use Rattle.brc_section.proofs.Tries.{goes_on, stays_here, stays_on, follows_on, letter_from}
use Rattle.brc_section.proofs.waiting.LookNextExecute.act.Goals as goal

pub returns-clause-later : goal.returns-clause-later
returns-clause-later g c =
    let old = c.args.frame.now in
    later_both old.seat.log c.work-left.new.self.seat.log c.act.new.frame.seat.log
    (goes_on old old c.poll-told.new.self c.work-left.new.self c.poll-told.result _ (later_same old.seat.log)
    c.poll-told.ensures.polled c.work-left.ensures.turns) c.act.ensures.later

pub returns-clause-follows : goal.returns-clause-follows
returns-clause-follows g c mailbox is =
    let old = c.args.frame.now in
    let registers = c.args.registers.now in
    let tried = c.act in
    let stays : StaysMeant old registers c.work-left.new.self registers
    = stays_on old old c.poll-told.new.self c.work-left.new.self registers registers c.poll-told.result _
    (stays_here old registers) c.poll-told.ensures.polled c.poll-told.ensures.handles c.work-left.ensures.turns
    c.work-left.ensures.handles
    in follows_on old c.work-left.new.self tried.new.frame registers registers tried.new.registers
    (instructions.Receive c.args.self.now.look.now.to mailbox) tried.result stays tried.ensures.heap tried.ensures.later
    (tried.ensures.follows mailbox is)

pub returns-clause-why : goal.returns-clause-why
returns-clause-why g c =
    let old = c.args.frame.now in
    letter_from c.args.self.now.look.now.awaited old c.work-left.new.self c.act.new.frame c.act.result
    (c.work-left.ensures.handles.heap ∙ c.poll-told.ensures.handles.heap)
    (goes_on old old c.poll-told.new.self c.work-left.new.self c.poll-told.result _ (later_same old.seat.log)
    c.poll-told.ensures.polled c.work-left.ensures.turns) c.act.ensures.why
