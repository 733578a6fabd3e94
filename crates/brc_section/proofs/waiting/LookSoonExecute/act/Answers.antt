use Rattle.std.proofs.Common.{rules}
use Rattle.brc_script.specs.declared.instruction.Instruction.TheVariants as instructions
use Rattle.brc_count.proofs.law.living.Earlier.{later_both}
use Rattle.brc_section.proofs.Tries.{stays_tried, follows_on, letter_from}
use Rattle.brc_section.proofs.waiting.LookSoonExecute.act.Goals as goal

pub returns-then-not-is_nothing-clause-later : goal.returns-then-not-is_nothing-clause-later
returns-then-not-is_nothing-clause-later g c =
    later_both c.args.frame.now.seat.log c.loop.frame.seat.log c.act-tried.new.frame.seat.log c.loop.invariant.2
    c.act-tried.ensures.later

pub returns-then-not-is_nothing-clause-follows : goal.returns-then-not-is_nothing-clause-follows
returns-then-not-is_nothing-clause-follows g c mailbox is =
    let tried = c.act-tried in
    follows_on c.args.frame.now c.loop.frame tried.new.frame c.args.registers.now c.loop.registers
    tried.new.registers (instructions.Receive c.args.self.now.look.now.to mailbox) tried.result
    (c.loop.invariant.3 mailbox is) tried.ensures.heap tried.ensures.later (tried.ensures.follows mailbox is)

pub returns-then-not-is_nothing-clause-why : goal.returns-then-not-is_nothing-clause-why
returns-then-not-is_nothing-clause-why g c =
    letter_from c.args.self.now.look.now.awaited c.args.frame.now c.loop.frame c.act-tried.new.frame
    c.act-tried.result c.loop.invariant.0 c.loop.invariant.2 c.act-tried.ensures.why

pub returns-clause-later : goal.returns-clause-later
returns-clause-later g c =
    later_both c.args.frame.now.seat.log c.loop.frame.seat.log c.act.new.frame.seat.log c.loop.invariant.2
    c.act.ensures.later

pub returns-clause-follows : goal.returns-clause-follows
returns-clause-follows g c mailbox is =
    let last = c.act in
    follows_on c.args.frame.now c.loop.frame last.new.frame c.args.registers.now c.loop.registers
    last.new.registers (instructions.Receive c.args.self.now.look.now.to mailbox) last.result
    (c.loop.invariant.3 mailbox is) last.ensures.heap last.ensures.later (last.ensures.follows mailbox is)

pub returns-clause-why : goal.returns-clause-why
returns-clause-why g c =
    letter_from c.args.self.now.look.now.awaited c.args.frame.now c.loop.frame c.act.new.frame c.act.result
    c.loop.invariant.0 c.loop.invariant.2 c.act.ensures.why

pub loop-preserved : goal.loop-preserved
loop-preserved g c = (
  search rules,
  search rules,
  later_both c.args.frame.now.seat.log c.loop.frame.seat.log c.act-tried.new.frame.seat.log c.loop.invariant.2
      c.act-tried.ensures.later,
  λ mailbox is.
      let tried = c.act-tried in
      stays_tried c.args.frame.now c.loop.frame tried.new.frame c.args.registers.now c.loop.registers
      tried.new.registers (instructions.Receive c.args.self.now.look.now.to mailbox) tried.result
      (c.loop.invariant.3 mailbox is) tried.ensures.heap tried.ensures.later (tried.ensures.follows mailbox is)
      (c.is_nothing.ensures c.if-not-is_nothing.false),
)
