use Rattle.std.proofs.Common.{subst, ℕ, List}
use Rattle.brc_count.specs.law.declared.rule.contents.Contents.TheVariants as contents
use Rattle.brc_count.specs.Making.{Made}
use Rattle.law_isolation.proofs.Later_Calls.{later_made}
use Rattle.brc_instructions.proofs.Follows_Of.{later_held, makes_text}
use Rattle.brc_instructions.proofs.Causes_Of.{caused_making}
use Rattle.brc_instructions.proofs.instructions.MakeTextExecute.act.Goals as goal

pub returns-in-Ok-clause-later : goal.returns-in-Ok-clause-later
returns-in-Ok-clause-later g c = later_held c.args.frame.now c.new_text.new.frame c.hold.new.frame
    (later_made c.in-Ok.ensures.made) c.hold.ensures.quiet

pub returns-in-Ok-clause-follows : goal.returns-in-Ok-clause-follows
returns-in-Ok-clause-follows g c base s own means =
    let it = c.args.self.now in
    makes_text base c.args.frame.now c.new_text.new.frame c.hold.new.frame c.args.registers.now c.hold.new.registers s
    it.to c.in-Ok.made
    means c.new_text.ensures.heap c.hold.ensures.heap c.hold.ensures.quiet own c.hold.ensures.means it.text.now
    (subst (λ (bytes : List ℕ). Made c.args.frame.now c.new_text.new.frame (contents.Text bytes) c.in-Ok.made)
    c.in_ok-copy.ensures c.in-Ok.ensures.made)

pub returns-in-Err-clause-why : goal.returns-in-Err-clause-why
returns-in-Err-clause-why g c = caused_making c.args.frame.now c.new_text.new.frame _ c.in-Err.ensures.refused
