use Rattle.std.proofs.Common.{ℕ, subst}
use Rattle.brc_script.specs.declared.instruction.Instruction.TheVariants as instructions
use Rattle.law_isolation.specs.Asked.{Follows}
use Rattle.brc_section.proofs.Tries.{for_letter, no_letter, same_letter}
use Rattle.brc_section.proofs.waiting.LookTryExecute.act.Goals as goal

pub returns-in-Name-clause-why : goal.returns-in-Name-clause-why
returns-in-Name-clause-why g c =
    no_letter c.args.self.now.awaited c.args.frame.now c.act.new.frame c.act.result
    c.in-Name.is

pub returns-in-Letter-clause-why : goal.returns-in-Letter-clause-why
returns-in-Letter-clause-why g c =
    for_letter c.args.self.now.awaited c.args.frame.now c.act-in-Letter.new.frame c.act-in-Letter.result
    c.act-in-Letter.ensures.why

pub returns-in-Letter-clause-follows : goal.returns-in-Letter-clause-follows
returns-in-Letter-clause-follows g c mailbox is =
    let it = c.args.self.now in
    let did = c.act-in-Letter in
    subst (λ (m : ℕ). Follows c.args.frame.now did.new.frame c.args.registers.now did.new.registers
    (instructions.Receive it.to m) did.result)
    (same_letter c.in-Letter.mailbox mailbox it.awaited c.in-Letter.is is) did.ensures.follows
