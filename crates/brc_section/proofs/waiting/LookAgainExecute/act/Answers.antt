use Rattle.std.proofs.Common.{◌∙◌, rules}
use Rattle.brc_script.specs.declared.instruction.Instruction.TheVariants as instructions
use Rattle.brc_count.specs.law.living.Later.{IsLater}
use Rattle.brc_count.proofs.law.living.Earlier.{later_both}
use Rattle.brc_section.specs.Tries.{StaysMeant}
use Rattle.brc_section.proofs.Tries.{goes_on, stays_on, stays_tried, follows_on, letter_from}
use Rattle.brc_section.proofs.waiting.LookAgainExecute.act.Goals as goal

-- a try found something before the board was told
pub returns-then-not-is_nothing-clause-later : goal.returns-then-not-is_nothing-clause-later
returns-then-not-is_nothing-clause-later g c =
    later_both c.args.frame.now.seat.log c.loop.frame.seat.log c.act-soon.new.frame.seat.log c.loop.invariant.4
    c.act-soon.ensures.later

pub returns-then-not-is_nothing-clause-follows : goal.returns-then-not-is_nothing-clause-follows
returns-then-not-is_nothing-clause-follows g c mailbox is =
    let soon = c.act-soon in
    follows_on c.args.frame.now c.loop.frame soon.new.frame c.args.registers.now c.loop.registers
    soon.new.registers (instructions.Receive c.args.self.now.look.now.to mailbox) soon.result
    (c.loop.invariant.5 mailbox is) soon.ensures.heap soon.ensures.later (soon.ensures.follows mailbox is)

pub returns-then-not-is_nothing-clause-why : goal.returns-then-not-is_nothing-clause-why
returns-then-not-is_nothing-clause-why g c =
    letter_from c.args.self.now.look.now.awaited c.args.frame.now c.loop.frame c.act-soon.new.frame
    c.act-soon.result c.loop.invariant.2 c.loop.invariant.4 c.act-soon.ensures.why

-- the board was told
pub returns-then-not-is_nothing-2-clause-later : goal.returns-then-not-is_nothing-2-clause-later
returns-then-not-is_nothing-2-clause-later g c =
    let worked : IsLater c.args.frame.now.seat.log c.work-left.new.self.seat.log
    = goes_on c.args.frame.now c.act-soon.new.frame c.poll-told.new.self c.work-left.new.self c.poll-told.result _
    (later_both c.args.frame.now.seat.log c.loop.frame.seat.log c.act-soon.new.frame.seat.log c.loop.invariant.4
    c.act-soon.ensures.later) c.poll-told.ensures.polled c.work-left.ensures.turns
    in later_both c.args.frame.now.seat.log c.work-left.new.self.seat.log c.act-tried.new.frame.seat.log worked
    c.act-tried.ensures.later

pub returns-then-not-is_nothing-2-clause-follows : goal.returns-then-not-is_nothing-2-clause-follows
returns-then-not-is_nothing-2-clause-follows g c mailbox is =
    let soon = c.act-soon in
    let tried = c.act-tried in
    let receive = instructions.Receive c.args.self.now.look.now.to mailbox in
    let tries : StaysMeant c.args.frame.now c.args.registers.now soon.new.frame soon.new.registers
    = stays_tried c.args.frame.now c.loop.frame soon.new.frame c.args.registers.now c.loop.registers
    soon.new.registers receive soon.result (c.loop.invariant.5 mailbox is) soon.ensures.heap soon.ensures.later
    (soon.ensures.follows mailbox is) (c.is_nothing.ensures c.if-not-is_nothing.false)
    in let stays : StaysMeant c.args.frame.now c.args.registers.now c.work-left.new.self soon.new.registers
    = stays_on c.args.frame.now soon.new.frame c.poll-told.new.self c.work-left.new.self c.args.registers.now
    soon.new.registers c.poll-told.result _ tries c.poll-told.ensures.polled c.poll-told.ensures.handles
    c.work-left.ensures.turns c.work-left.ensures.handles
    in follows_on c.args.frame.now c.work-left.new.self tried.new.frame c.args.registers.now soon.new.registers
    tried.new.registers receive tried.result stays tried.ensures.heap tried.ensures.later
    (tried.ensures.follows mailbox is)

pub returns-then-not-is_nothing-2-clause-why : goal.returns-then-not-is_nothing-2-clause-why
returns-then-not-is_nothing-2-clause-why g c =
    let worked : IsLater c.args.frame.now.seat.log c.work-left.new.self.seat.log
    = goes_on c.args.frame.now c.act-soon.new.frame c.poll-told.new.self c.work-left.new.self c.poll-told.result _
    (later_both c.args.frame.now.seat.log c.loop.frame.seat.log c.act-soon.new.frame.seat.log c.loop.invariant.4
    c.act-soon.ensures.later) c.poll-told.ensures.polled c.work-left.ensures.turns
    in letter_from c.args.self.now.look.now.awaited c.args.frame.now c.work-left.new.self c.act-tried.new.frame
    c.act-tried.result (c.work-left.ensures.handles.heap ∙ c.poll-told.ensures.handles.heap
    ∙ c.act-soon.ensures.heap ∙ c.loop.invariant.2) worked c.act-tried.ensures.why

pub returns-then-not-waits-clause-later : goal.returns-then-not-waits-clause-later
returns-then-not-waits-clause-later g c =
    let worked : IsLater c.args.frame.now.seat.log c.work-left.new.self.seat.log
    = goes_on c.args.frame.now c.act-soon.new.frame c.poll-told.new.self c.work-left.new.self c.poll-told.result _
    (later_both c.args.frame.now.seat.log c.loop.frame.seat.log c.act-soon.new.frame.seat.log c.loop.invariant.4
    c.act-soon.ensures.later) c.poll-told.ensures.polled c.work-left.ensures.turns
    in later_both c.args.frame.now.seat.log c.work-left.new.self.seat.log c.act-tried.new.frame.seat.log worked
    c.act-tried.ensures.later

pub returns-then-not-waits-clause-follows : goal.returns-then-not-waits-clause-follows
returns-then-not-waits-clause-follows g c mailbox is =
    let soon = c.act-soon in
    let tried = c.act-tried in
    let receive = instructions.Receive c.args.self.now.look.now.to mailbox in
    let tries : StaysMeant c.args.frame.now c.args.registers.now soon.new.frame soon.new.registers
    = stays_tried c.args.frame.now c.loop.frame soon.new.frame c.args.registers.now c.loop.registers
    soon.new.registers receive soon.result (c.loop.invariant.5 mailbox is) soon.ensures.heap soon.ensures.later
    (soon.ensures.follows mailbox is) (c.is_nothing.ensures c.if-not-is_nothing.false)
    in let stays : StaysMeant c.args.frame.now c.args.registers.now c.work-left.new.self soon.new.registers
    = stays_on c.args.frame.now soon.new.frame c.poll-told.new.self c.work-left.new.self c.args.registers.now
    soon.new.registers c.poll-told.result _ tries c.poll-told.ensures.polled c.poll-told.ensures.handles
    c.work-left.ensures.turns c.work-left.ensures.handles
    in follows_on c.args.frame.now c.work-left.new.self tried.new.frame c.args.registers.now soon.new.registers
    tried.new.registers receive tried.result stays tried.ensures.heap tried.ensures.later
    (tried.ensures.follows mailbox is)

pub returns-then-not-waits-clause-why : goal.returns-then-not-waits-clause-why
returns-then-not-waits-clause-why g c =
    let worked : IsLater c.args.frame.now.seat.log c.work-left.new.self.seat.log
    = goes_on c.args.frame.now c.act-soon.new.frame c.poll-told.new.self c.work-left.new.self c.poll-told.result _
    (later_both c.args.frame.now.seat.log c.loop.frame.seat.log c.act-soon.new.frame.seat.log c.loop.invariant.4
    c.act-soon.ensures.later) c.poll-told.ensures.polled c.work-left.ensures.turns
    in letter_from c.args.self.now.look.now.awaited c.args.frame.now c.work-left.new.self c.act-tried.new.frame
    c.act-tried.result (c.work-left.ensures.handles.heap ∙ c.poll-told.ensures.handles.heap
    ∙ c.act-soon.ensures.heap ∙ c.loop.invariant.2) worked c.act-tried.ensures.why

pub loop-preserved : goal.loop-preserved
loop-preserved g c = (
  search rules,
  search rules,
  search rules,
  search rules,
  let worked : IsLater c.args.frame.now.seat.log c.work-left.new.self.seat.log
      = goes_on c.args.frame.now c.act-soon.new.frame c.poll-told.new.self c.work-left.new.self c.poll-told.result _
      (later_both c.args.frame.now.seat.log c.loop.frame.seat.log c.act-soon.new.frame.seat.log c.loop.invariant.4
      c.act-soon.ensures.later) c.poll-told.ensures.polled c.work-left.ensures.turns
      in later_both c.args.frame.now.seat.log c.work-left.new.self.seat.log c.act-tried.new.frame.seat.log worked
      c.act-tried.ensures.later,
  λ mailbox is.
      let soon = c.act-soon in
      let tried = c.act-tried in
      let receive = instructions.Receive c.args.self.now.look.now.to mailbox in
      let tries : StaysMeant c.args.frame.now c.args.registers.now soon.new.frame soon.new.registers
      = stays_tried c.args.frame.now c.loop.frame soon.new.frame c.args.registers.now c.loop.registers
      soon.new.registers receive soon.result (c.loop.invariant.5 mailbox is) soon.ensures.heap soon.ensures.later
      (soon.ensures.follows mailbox is) (c.is_nothing.ensures c.if-not-is_nothing.false)
      in let stays : StaysMeant c.args.frame.now c.args.registers.now c.work-left.new.self soon.new.registers
      = stays_on c.args.frame.now soon.new.frame c.poll-told.new.self c.work-left.new.self c.args.registers.now
      soon.new.registers c.poll-told.result _ tries c.poll-told.ensures.polled c.poll-told.ensures.handles
      c.work-left.ensures.turns c.work-left.ensures.handles
      in stays_tried c.args.frame.now c.work-left.new.self tried.new.frame c.args.registers.now soon.new.registers
      tried.new.registers receive tried.result stays tried.ensures.heap tried.ensures.later
      (tried.ensures.follows mailbox is)
      (c.is_nothing-in-loop.ensures c.if-not-is_nothing-2.false),
)
