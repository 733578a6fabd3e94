use Rattle.brc_script.specs.declared.instruction.Instruction.TheVariants as instructions
use Rattle.brc_count.proofs.law.living.Earlier.{later_both}
use Rattle.brc_section.proofs.Tries.{stays_here, stays_tried, follows_on, letter_from}
use Rattle.brc_section.proofs.waiting.AwaitExecute.act.Goals as goal

pub returns-clause-later : goal.returns-clause-later
returns-clause-later g c =
    later_both c.args.frame.now.seat.log c.act-tried.new.frame.seat.log c.act.new.frame.seat.log
    c.act-tried.ensures.later c.act.ensures.later

pub returns-clause-follows : goal.returns-clause-follows
returns-clause-follows g c mailbox is =
    let tried = c.act-tried in
    let again = c.act in
    let receive = instructions.Receive c.args.self.now.look.to mailbox in
    follows_on c.args.frame.now tried.new.frame again.new.frame c.args.registers.now tried.new.registers
    again.new.registers receive again.result
    (stays_tried c.args.frame.now c.args.frame.now tried.new.frame c.args.registers.now c.args.registers.now
    tried.new.registers receive tried.result (stays_here c.args.frame.now c.args.registers.now) tried.ensures.heap
    tried.ensures.later (tried.ensures.follows mailbox is) (c.is_nothing.ensures c.if-not-is_nothing.false))
    again.ensures.heap again.ensures.later (again.ensures.follows mailbox is)

pub returns-clause-why : goal.returns-clause-why
returns-clause-why g c =
    letter_from c.args.self.now.look.awaited c.args.frame.now c.act-tried.new.frame c.act.new.frame c.act.result
    c.act-tried.ensures.heap c.act-tried.ensures.later c.act.ensures.why
